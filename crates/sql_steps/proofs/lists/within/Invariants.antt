use Rattle.std.proofs.Common.{◌≡◌, take}
use Rattle.sql_steps.specs.Variables.{within}
use Rattle.sql_steps.proofs.lists.within.Given as goal

-- those so far
abbrev pub invariant-loop-u : goal.invariant-loop-u
invariant-loop-u l = l.list ≡ within (take l.u-index l.us) l.vs
