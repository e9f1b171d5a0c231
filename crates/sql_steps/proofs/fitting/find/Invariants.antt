use Rattle.std.proofs.Common.{◌≡◌, drop}
use Rattle.sql_steps.specs.Steps.{find}
use Rattle.sql_steps.proofs.fitting.find.Given as goal

-- not among those so far
abbrev pub invariant-loop-one : goal.invariant-loop-one
invariant-loop-one l = find (drop l.one-index l.known) l.v ≡ find l.known l.v
