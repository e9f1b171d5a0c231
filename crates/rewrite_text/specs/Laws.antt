-- The laws of the tree that a plan makes.
use Rattle.std.specs.Prelude.{◌≡◌, ℕ, List, [], length}
use Rattle.cqa_value.specs.declared.value.Value.{Value}
use Rattle.cqa_model.specs.declared.query.Query.{Query}
use Rattle.cqa_model.specs.Database.{Table, IsDatabase, stored}
use Rattle.cqa_model.specs.Query.{FitsDatabase}
use Rattle.cqa_model.specs.Plan.{HoldsOver, IsPlanOf}
use Rattle.block_tree.specs.declared.node.Node.{Node}
use Rattle.block_tree.specs.Trees.{PassesFor, HasListedBlocks}
use Rattle.plan_rows.specs.Left.{AreQueryAtoms}
use Rattle.rewrite_text.specs.Made.{IsMade}

-- Where a plan holds for a row it makes a tree.
abbrev pub MadeExists : Type 0
MadeExists = (db : List Table) (q : Query) (row : List Value) (plan : List ℕ) → IsDatabase db → FitsDatabase q db → AreQueryAtoms q plan → HoldsOver db q row plan → (nodes : List Node) × IsMade q (stored db) row [] plan nodes

-- It makes one tree at most.
abbrev pub MadeOnce : Type 0
MadeOnce = (db : List Table) (q : Query) (row : List Value) (plan : List ℕ) (a b : List Node) → IsMade q (stored db) row [] plan a → IsMade q (stored db) row [] plan b → a ≡ b

-- The tree that the plan of a query makes for a row as long as the answer passes, and the database has its blocks.
abbrev pub MadePasses : Type 0
MadePasses = (db : List Table) (q : Query) (row : List Value) (plan : List ℕ) (nodes : List Node) → IsDatabase db → FitsDatabase q db → length row ≡ length q.answer → IsPlanOf q plan → IsMade q (stored db) row [] plan nodes →
    PassesFor q row plan nodes × HasListedBlocks q (stored db) nodes
