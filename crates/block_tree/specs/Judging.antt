-- What is said of blocks, one after another.
use Rattle.std.specs.Prelude.{◌≡◌, ◌⊎◌, ℕ, ◌+◌, List, [], ◌∷◌, ◌++◌, length, flat_map, Contains}
use Rattle.cqa_value.specs.declared.value.Value.{Value}
use Rattle.cqa_model.specs.declared.query.Query.{Query}
use Rattle.cqa_model.specs.Query.{atom_key}
use Rattle.cqa_model.specs.Plan.{Placed}
use Rattle.block_tree.specs.declared.node.Node.{Node}
use Rattle.block_tree.specs.declared.cause.BlockCause.{BlockCause}
use Rattle.block_tree.specs.declared.cause.BlockCause.TheVariants.{WrongTable, NotABlock, OtherRows, NotFitting, Missing, Surplus}
use Rattle.block_tree.specs.declared.cause.RewriteCheck.{RewriteCheck}
use Rattle.block_tree.specs.declared.cause.RewriteCheck.TheVariants.{Verified, BadBlock}
use Rattle.block_tree.specs.Trees.{IsBlockOf, FitEach, ListAlike}

-- a block that is due: of which atom, under which rows, and which atoms come below it
pub record Due : Type 0 where
  pub taken : List Placed
  pub atom : ℕ
  pub rest : List ℕ

-- what is due for an order: a block of its first atom
abbrev pub due_first : List Placed → List ℕ → List Due
due_first taken [] = []
due_first taken (F ∷ order) = (record { taken = taken; atom = F; rest = order }) ∷ []

-- what is due below a block with these rows
abbrev pub dues_below : Due → List (List Value) → List Due
dues_below d rows = flat_map (λ x. due_first (record { atom = d.atom; row = x } ∷ d.taken) d.rest) rows

-- a block is of the atom that is due
abbrev pub IsOfAtom : Due → Node → Type 0
IsOfAtom d b = b.atom ≡ d.atom

-- its rows are a block by that atom's key
abbrev pub IsBlockFor : Query → Due → Node → Type 0
IsBlockFor q d b = IsOfAtom d b × IsBlockOf (atom_key q d.atom) b.rows

-- it lists its rows as each earlier block of the same atom and key does
abbrev pub IsListed : Query → List Node → Due → Node → Type 0
IsListed q before d b = IsBlockFor q d b × ((a : Node) → Contains before a → ListAlike q a b)

-- a block can stand where one is due: all its rows fit the rows above it
abbrev pub CanStand : Query → List Value → List Node → Due → Node → Type 0
CanStand q row before d b = IsListed q before d b × FitEach q row d.taken d.atom b.rows

-- why a block isn't the one that is due: the first of these causes
abbrev pub FailsBy : Query → List Value → List Node → Due → Node → BlockCause → Type 0
FailsBy q row before d b WrongTable = IsOfAtom d b → ⊥
FailsBy q row before d b NotABlock = IsOfAtom d b × (IsBlockFor q d b → ⊥)
FailsBy q row before d b OtherRows = IsBlockFor q d b × (IsListed q before d b → ⊥)
FailsBy q row before d b NotFitting = IsListed q before d b × (CanStand q row before d b → ⊥)
FailsBy q row before d b Missing = ⊥
FailsBy q row before d b Surplus = ⊥

-- what is said of blocks behind others, where these are due
abbrev pub JudgesBlocks : Query → List Value → List Node → List Due → List Node → RewriteCheck → Type 0
JudgesBlocks q row before [] [] reply = reply ≡ Verified
JudgesBlocks q row before (d ∷ ds) [] reply = reply ≡ BadBlock (length before + 1) Missing
JudgesBlocks q row before [] (b ∷ bs) reply = reply ≡ BadBlock (length before + 1) Surplus
JudgesBlocks q row before (d ∷ ds) (b ∷ bs) reply =
    ((cause : BlockCause) × FailsBy q row before d b cause × (reply ≡ BadBlock (length before + 1) cause)) ⊎
    (CanStand q row before d b × JudgesBlocks q row (before ++ b ∷ []) (dues_below d b.rows ++ ds) bs reply)

-- what is said of all blocks, where the tree of an order is due
abbrev pub Judged : Query → List Value → List ℕ → List Node → RewriteCheck → Type 0
Judged q row order nodes reply = JudgesBlocks q row [] (due_first [] order) nodes reply
