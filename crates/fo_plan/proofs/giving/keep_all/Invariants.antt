use Rattle.std.proofs.Common.{length}
use Rattle.fo_plan.specs.Holding.{AllHoldWith}
use Rattle.plan_rows.specs.Underway.{IsRight}
use Rattle.fo_plan.proofs.Gathered.{KeptSoFar}
use Rattle.fo_plan.proofs.giving.keep_all.Given as goal

-- those of the rows proposed so far were added for which the block holds
abbrev pub invariant-loop-row : goal.invariant-loop-row
invariant-loop-row l = record {
  kept : KeptSoFar (λ r. AllHoldWith l.step r l.block) l.fn.part l.part l.fn.found l.found;
  right : IsRight l.step.course.now l.memo;
}

abbrev pub decreases-loop-row : goal.decreases-loop-row
decreases-loop-row l = length l.part
