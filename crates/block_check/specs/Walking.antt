-- What a walk over blocks finds.
use Rattle.std.specs.Prelude.{◌≡◌, ◌↔◌, ℕ, ◌+◌, ◌<◌, ◌≤◌, IsTrue, false, List, ◌++◌, length, take, drop, slice_index_or}
use Rattle.cqa_value.specs.declared.value.Value.{Value}
use Rattle.cqa_model.specs.declared.query.Query.{Query}
use Rattle.cqa_model.specs.Query.{atom_key}
use Rattle.plan_rows.specs.declared.steps.Rest.{Rest}
use Rattle.plan_rows.specs.declared.steps.Step.{Step}
use Rattle.plan_rows.specs.Taking.{placed}
use Rattle.plan_rows.specs.Over.{rows_before}
use Rattle.block_tree.specs.declared.node.Node.{Node}
use Rattle.block_tree.specs.declared.cause.RewriteCheck.{RewriteCheck}
use Rattle.block_tree.specs.declared.cause.RewriteCheck.TheVariants.{BadBlock}
use Rattle.block_tree.specs.Trees.{IsBlockOf, AllAlike}
use Rattle.block_tree.specs.Judging.{Due, JudgesBlocks, due_first}
use Rattle.block_check.specs.declared.marking.Mark.{Mark}
use Rattle.block_check.specs.declared.walk.Fault.{Fault}
use Rattle.block_check.specs.Firsts.{IsFirstOfKey, nth_node}

-- the query whose order it is the rest of
abbrev pub rest_query : Rest → Query
rest_query r = r.course.now.setting.bound.now.query.now

-- what is due at the rest of an order
abbrev pub due_at : Rest → List Due
due_at r = due_first (placed r.taken.now) r.plan.now

-- what is due at a step
abbrev pub due_of : Step → Due
due_of s = record { taken = rows_before s; atom = s.atom; rest = s.rest.now }

-- a mark says of the block at a place whether it is one, and which block is the first of its atom and key
pub record HasMark (q : Query) (nodes : List Node) (i : ℕ) (m : Mark) : Type 0 where
  pub block : IsTrue m.is_block ↔ IsBlockOf (atom_key q (nth_node nodes i).atom) (nth_node nodes i).rows
  pub first : IsFirstOfKey q nodes i m.first

abbrev pub node_mark : List Mark → ℕ → Mark
node_mark marks i = slice_index_or marks i (record { is_block = false; first = 0 })

-- so many first blocks have marks
pub record HasMarks (q : Query) (nodes : List Node) (n : ℕ) (marks : List Mark) : Type 0 where
  pub size : length marks ≡ n
  pub each : (i : ℕ) → i < n → HasMark q nodes i (node_mark marks i)

-- the walk goes from a place, where some blocks are due, on to another, where others are: whatever else is due behind them,
-- what is said at the second is said at the first
pub record WalksOn (q : Query) (row : List Value) (nodes : List Node) (dues : List Due) (at : ℕ) (others : List Due) (on : ℕ) : Type 0 where
  pub within : on ≤ length nodes
  pub alike : AllAlike q (take on nodes)
  pub goes : (ds : List Due) (reply : RewriteCheck) → JudgesBlocks q row (take on nodes) (others ++ ds) (drop on nodes) reply → JudgesBlocks q row (take at nodes) (dues ++ ds) (drop at nodes) reply

-- the walk ends at a fault, whatever else is due
pub record Breaks (q : Query) (row : List Value) (nodes : List Node) (dues : List Due) (at : ℕ) (f : Fault) : Type 0 where
  pub within : f.at ≤ length nodes
  pub ends : (ds : List Due) → JudgesBlocks q row (take at nodes) (dues ++ ds) (drop at nodes) (BadBlock (f.at + 1) f.cause)
