use Rattle.plan_rows.specs.Fitting.{HaveSameFirst}
use Rattle.plan_rows.proofs.fitting.are_same.Given as goal

-- the columns so far
abbrev pub invariant-loop-col : goal.invariant-loop-col
invariant-loop-col l = HaveSameFirst l.x l.y l.col
