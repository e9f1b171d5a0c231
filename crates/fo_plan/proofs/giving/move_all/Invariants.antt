use Rattle.std.proofs.Common.{length}
use Rattle.fo_plan.proofs.Gathered.{KeptSoFar}
use Rattle.fo_plan.proofs.giving.move_all.Given as goal

-- the rows so far were moved
abbrev pub invariant-loop-row : goal.invariant-loop-row
invariant-loop-row l = KeptSoFar (λ r. Unit {0}) l.fn.part l.part l.fn.found l.found

abbrev pub decreases-loop-row : goal.decreases-loop-row
decreases-loop-row l = length l.part
