use Rattle.std.proofs.Common.{◌+◌, ◌-◌, ◌*◌, length}
use Rattle.fo_plan.specs.Enough.{IsSpot}
use Rattle.fo_plan.specs.Holding.{PlanHoldsWith}
use Rattle.plan_rows.specs.Underway.{IsRight}
use Rattle.fo_plan.proofs.Passing.{NoneBefore}
use Rattle.fo_plan.proofs.Gathered.{HeldSoFar}
use Rattle.fo_plan.proofs.holding.+holds.Given as goal

abbrev pub decreases-all_hold : goal.decreases-all_hold
decreases-all_hold l = 6 * length l.step.now.rest.now + 2

abbrev pub decreases-holds_with : goal.decreases-holds_with
decreases-holds_with l = 6 * length l.rest.now.plan.now

abbrev pub decreases-remembered : goal.decreases-remembered
decreases-remembered l = 6 * length l.step.now.rest.now + 5

abbrev pub decreases-row_holds : goal.decreases-row_holds
decreases-row_holds l = 6 * length l.step.now.rest.now + 1

abbrev pub decreases-some_block : goal.decreases-some_block
decreases-some_block l = 6 * length l.step.now.rest.now + 4

abbrev pub decreases-first_of : goal.decreases-first_of
decreases-first_of l = 6 * length l.step.now.rest.now + 3

-- the rows so far hold
abbrev pub invariant-all_hold-loop-y : goal.invariant-all_hold-loop-y
invariant-all_hold-loop-y l = record {
  held : HeldSoFar (PlanHoldsWith l.step l.row) l.block l.y-iterator;
  right : IsRight l.step.course.now l.memo;
}

-- none of the blocks so far holds
abbrev pub invariant-first_of-loop-block : goal.invariant-first_of-loop-block
invariant-first_of-loop-block l = record {
  none : NoneBefore l.blocks (PlanHoldsWith l.step l.row) l.spot.place;
  spot : IsSpot l.blocks l.spot;
  right : IsRight l.step.course.now l.memo;
}

abbrev pub decreases-first_of-loop-block : goal.decreases-first_of-loop-block
decreases-first_of-loop-block l = length l.blocks.rows - l.spot.place
