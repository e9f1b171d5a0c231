use Rattle.plan_rows.specs.Fitting.{GivesFirst}
use Rattle.plan_rows.proofs.fitting.gives.Given as goal

-- the answer columns so far
abbrev pub invariant-loop-at : goal.invariant-loop-at
invariant-loop-at l = GivesFirst l.query l.atom l.x l.row l.at
