use Rattle.std.proofs.Common.{◌+◌, ◌*◌, length, drop}
use Rattle.plan_rows.specs.Over.{query_of}
use Rattle.block_tree.specs.Judging.{dues_below}
use Rattle.block_check.specs.Walking.{due_of, WalksOn}
use Rattle.block_check.proofs.walk.+tree.Given as goal

abbrev pub decreases-tree : goal.decreases-tree
decreases-tree l = 3 * length l.rest.now.plan.now

abbrev pub decreases-one : goal.decreases-one
decreases-one l = 3 * length l.step.now.rest.now + 2

abbrev pub decreases-under : goal.decreases-under
decreases-under l = 3 * length l.step.now.rest.now + 1

-- the rows so far have their trees
abbrev pub invariant-under-loop-x : goal.invariant-under-loop-x
invariant-under-loop-x l = WalksOn (query_of l.step) l.row l.nodes (dues_below (due_of l.step) l.rows) l.at (dues_below (due_of l.step) (drop l.x-index l.rows)) l.on
