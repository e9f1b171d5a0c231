use Rattle.std.proofs.Common.{◌+◌, ◌*◌, length, take}
use Rattle.plan_rows.specs.Over.{query_of, rows_before}
use Rattle.plan_rows.specs.Underway.{IsRight}
use Rattle.rewrite_text.specs.Growing.{AddsTreesUnder}
use Rattle.rewrite_text.proofs.tree.+nodes.Given as goal

abbrev pub decreases-add_nodes : goal.decreases-add_nodes
decreases-add_nodes l = 3 * length l.rest.now.plan.now

abbrev pub decreases-add_tree : goal.decreases-add_tree
decreases-add_tree l = 3 * length l.step.now.rest.now + 2

abbrev pub decreases-add_under : goal.decreases-add_under
decreases-add_under l = 3 * length l.step.now.rest.now + 1

-- the rows so far have their trees
abbrev pub invariant-add_under-loop-at : goal.invariant-add_under-loop-at
invariant-add_under-loop-at l = record {
  so : AddsTreesUnder l.step.course.now.setting.bound.now.db.now (query_of l.step) l.row (rows_before l.step) l.step.atom l.step.rest.now (take l.at l.block) l.initial.draft l.draft;
  right : IsRight l.step.course.now l.memo;
}
