use Rattle.std.proofs.Common.{◌≡◌, ◌++◌, drop}
use Rattle.sql_steps.specs.Steps.{held}
use Rattle.sql_steps.proofs.fitting.held.Given as goal

-- what is left
abbrev pub invariant-loop-column : goal.invariant-loop-column
invariant-loop-column l = l.known ++ held l.place l.column (drop l.column l.vs) ≡ held l.place 0 l.vs
