use Rattle.std.proofs.Common.{◌+◌, ◌-◌, ◌*◌, length}
use Rattle.plan_rows.specs.Over.{query_of, rows_before}
use Rattle.fo_plan.specs.Enough.{IsSpot}
use Rattle.fo_plan.specs.Holding.{PlanHoldsWith}
use Rattle.fo_plan.specs.Giving.{IsAnswerRow}
use Rattle.fo_plan.specs.Noted.{AreRight}
use Rattle.fo_plan.proofs.Adding.{AddedBefore}
use Rattle.fo_plan.proofs.giving.+giving.Given as goal

abbrev pub decreases-add_given : goal.decreases-add_given
decreases-add_given l = 7 * length l.rest.now.plan.now

abbrev pub decreases-add_apart : goal.decreases-add_apart
decreases-add_apart l = 7 * length l.step.now.rest.now + 6

abbrev pub decreases-add_or_note : goal.decreases-add_or_note
decreases-add_or_note l = 7 * length l.step.now.rest.now + 5

abbrev pub decreases-add_blocks : goal.decreases-add_blocks
decreases-add_blocks l = 7 * length l.step.now.rest.now + 4

abbrev pub decreases-add_all_of : goal.decreases-add_all_of
decreases-add_all_of l = 7 * length l.step.now.rest.now + 3

abbrev pub decreases-add_block : goal.decreases-add_block
decreases-add_block l = 7 * length l.step.now.rest.now + 2

abbrev pub decreases-add_tested : goal.decreases-add_tested
decreases-add_tested l = 7 * length l.step.now.rest.now + 1

-- what the blocks so far give has come
abbrev pub invariant-add_all_of-loop-block : goal.invariant-add_all_of-loop-block
invariant-add_all_of-loop-block l = record {
  added : AddedBefore l.blocks (IsAnswerRow (query_of l.step) (rows_before l.step)) (PlanHoldsWith l.step) l.spot.place l.fn.found l.found;
  spot : IsSpot l.blocks l.spot;
  right : AreRight l.step.course.now l.notes;
}

abbrev pub decreases-add_all_of-loop-block : goal.decreases-add_all_of-loop-block
decreases-add_all_of-loop-block l = length l.blocks.rows - l.spot.place
