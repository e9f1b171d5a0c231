use Rattle.std.proofs.Common.{◌+◌, ◌*◌, ◌-◌, length}
use Rattle.plan_rows.specs.Taking.{placed}
use Rattle.plan_rows.specs.Underway.{IsRight}
use Rattle.plan_repair.proofs.Mended.{BlocksSoFar, RowsSoFar}
use Rattle.plan_repair.proofs.mending.+mend.Given as goal

abbrev pub decreases-mend_rest : goal.decreases-mend_rest
decreases-mend_rest l = 7 * length l.plan.now + 2

abbrev pub decreases-remembered : goal.decreases-remembered
decreases-remembered l = 7 * length l.plan.now + 1

abbrev pub decreases-mend_anew : goal.decreases-mend_anew
decreases-mend_anew l = 7 * length l.plan.now

abbrev pub decreases-mend_blocks : goal.decreases-mend_blocks
decreases-mend_blocks l = 7 * length l.rest.now + 6

abbrev pub decreases-mend_places : goal.decreases-mend_places
decreases-mend_places l = 7 * length l.rest.now + 5

abbrev pub decreases-mend_block : goal.decreases-mend_block
decreases-mend_block l = 7 * length l.rest.now + 4

abbrev pub decreases-row_mended : goal.decreases-row_mended
decreases-row_mended l = 7 * length l.rest.now + 3

-- the blocks so far were mended
abbrev pub invariant-mend_places-loop-at : goal.invariant-mend_places-loop-at
invariant-mend_places-loop-at l = record {
  blocks : BlocksSoFar l.way.course.now.setting.bound.now.query.now l.way.course.now.setting.bound.now.db.now l.way.row.now (placed l.taken) l.atom l.fn.kept l.kept l.rows l.places.start l.at l.done;
  right : IsRight l.way.course.now l.memo;
}

abbrev pub decreases-mend_places-loop-at : goal.decreases-mend_places-loop-at
decreases-mend_places-loop-at l = l.places.end - l.at

-- the rows so far hold, and the last of them is kept
abbrev pub invariant-mend_block-loop-next : goal.invariant-mend_block-loop-next
invariant-mend_block-loop-next l = record {
  rows : RowsSoFar l.way.course.now.setting.bound.now.query.now l.way.course.now.setting.bound.now.db.now l.way.row.now (placed l.taken) l.atom l.rest l.fn.kept l.kept l.rows l.start l.end l.last l.next;
  right : IsRight l.way.course.now l.memo;
}
