use Rattle.std.proofs.Common.{◌≡◌, false, take}
use Rattle.sql_steps.specs.Variables.{has}
use Rattle.sql_steps.proofs.lists.has.Given as goal

-- not among those so far
abbrev pub invariant-loop-u : goal.invariant-loop-u
invariant-loop-u l = has (take l.u-index l.vs) l.v ≡ false
