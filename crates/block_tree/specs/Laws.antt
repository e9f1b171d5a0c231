-- The laws of trees of blocks.
use Rattle.std.specs.Prelude.{◌≡◌, ◌↔◌, ℕ, List, []}
use Rattle.cqa_value.specs.declared.value.Value.{Value}
use Rattle.cqa_model.specs.declared.query.Query.{Query}
use Rattle.cqa_model.specs.Database.{Table, stored}
use Rattle.cqa_model.specs.Query.{FitsDatabase}
use Rattle.cqa_model.specs.Certain.{IsCertain}
use Rattle.block_tree.specs.declared.node.Node.{Node}
use Rattle.block_tree.specs.declared.cause.RewriteCheck.{RewriteCheck}
use Rattle.block_tree.specs.declared.cause.RewriteCheck.TheVariants.{Verified}
use Rattle.block_tree.specs.Trees.{IsTree, AllAlike, PassesFor, HasListedBlocks, SameButPlaces}
use Rattle.block_tree.specs.Judging.{Judged}

-- Where a tree of blocks passes, its row is certain in each database that has the blocks.
abbrev pub PassingIsCertain : Type 0
PassingIsCertain =
    (db : List Table) (q : Query) (row : List Value) (order : List ℕ) (nodes : List Node) →
    FitsDatabase q db → PassesFor q row order nodes → HasListedBlocks q (stored db) nodes → IsCertain db q row

-- What passes for a query passes for one that differs in the places of its tables alone.
abbrev pub PassingElsewhere : Type 0
PassingElsewhere = (q p : Query) (row : List Value) (order : List ℕ) (nodes : List Node) → SameButPlaces q p → PassesFor q row order nodes → PassesFor p row order nodes

-- Blocks are verified exactly where they are a tree in which blocks of one atom and key are listed alike.
abbrev pub VerifiedIsPassing : Type 0
VerifiedIsPassing = (q : Query) (row : List Value) (order : List ℕ) (nodes : List Node) → Judged q row order nodes Verified ↔ (IsTree q row [] order nodes × AllAlike q nodes)

-- At most one thing is said of blocks.
abbrev pub JudgedOnce : Type 0
JudgedOnce = (q : Query) (row : List Value) (order : List ℕ) (nodes : List Node) (a b : RewriteCheck) → Judged q row order nodes a → Judged q row order nodes b → a ≡ b
