use Rattle.plan_rows.specs.Fitting.{Suits}
use Rattle.plan_rows.specs.Over.{query_of, rows_before}
use Rattle.fo_plan.proofs.Gathered.{HeldSoFar}
use Rattle.fo_plan.proofs.giving.all_suit.Given as goal

-- the rows so far fit
abbrev pub invariant-loop-y : goal.invariant-loop-y
invariant-loop-y l = HeldSoFar (Suits (query_of l.step) (rows_before l.step) l.step.atom) l.block l.y-iterator
