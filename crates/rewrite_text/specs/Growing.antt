-- The blocks of a made tree, written behind other statements.
use Rattle.std.specs.Prelude.{ℕ, List, ◌∷◌, map}
use Rattle.std.specs.List.{AllZip}
use Rattle.cqa_value.specs.declared.value.Value.{Value}
use Rattle.cqa_model.specs.declared.query.Query.{Query}
use Rattle.cqa_model.specs.Database.{Table, stored}
use Rattle.cqa_model.specs.Plan.{Placed}
use Rattle.block_tree.specs.declared.node.Node.{Node}
use Rattle.block_tree.specs.Trees.{listing}
use Rattle.rewrite_text.specs.declared.draft.Draft.{Draft}
use Rattle.rewrite_text.specs.Made.{IsMade}
use Rattle.rewrite_text.specs.Texts.{certificate_block}
use Rattle.rewrite_text.specs.Drafts.{AddsStatements, IsTooLongBehind}

-- the blocks of nodes are written
abbrev pub AddsNodes : List Table → Query → List Node → Draft → Draft → Type 0
AddsNodes db q nodes old new = AddsStatements (map (certificate_block db q) nodes) old new

-- the blocks of nodes are too many bytes behind so many, or one of them is
abbrev pub AreTooLongBehind : List Table → Query → ℕ → List Node → Type 0
AreTooLongBehind db q before nodes = IsTooLongBehind before (map (certificate_block db q) nodes)

-- the blocks of the tree that a plan makes are written
pub record AddsTree (db : List Table) (q : Query) (row : List Value) (taken : List Placed) (plan : List ℕ) (old new : Draft) : Type 0 where
  pub nodes : List Node
  pub made : IsMade q (stored db) row taken plan nodes
  pub added : AddsNodes db q nodes old new

-- the blocks of each tree that a plan makes are too long
abbrev pub IsLongTree : List Table → Query → List Value → List Placed → List ℕ → ℕ → Type 0
IsLongTree db q row taken plan before = (nodes : List Node) → IsMade q (stored db) row taken plan nodes → AreTooLongBehind db q before nodes

-- trees are made under the rows of a block, one for each
abbrev pub AreMadeUnder : List Table → Query → List Value → List Placed → ℕ → List ℕ → List (List Value) → List (List Node) → Type 0
AreMadeUnder db q row taken F plan block parts = AllZip (λ x part. IsMade q (stored db) row (record { atom = F; row = x } ∷ taken) plan part) block parts

-- the blocks of the trees under the rows of a block are written
pub record AddsTreesUnder (db : List Table) (q : Query) (row : List Value) (taken : List Placed) (F : ℕ) (plan : List ℕ) (block : List (List Value)) (old new : Draft) : Type 0 where
  pub parts : List (List Node)
  pub made : AreMadeUnder db q row taken F plan block parts
  pub added : AddsNodes db q (listing parts) old new

-- the blocks of all trees under the rows of a block are too long
abbrev pub AreLongTreesUnder : List Table → Query → List Value → List Placed → ℕ → List ℕ → List (List Value) → ℕ → Type 0
AreLongTreesUnder db q row taken F plan block before = (parts : List (List Node)) → AreMadeUnder db q row taken F plan block parts → AreTooLongBehind db q before (listing parts)
