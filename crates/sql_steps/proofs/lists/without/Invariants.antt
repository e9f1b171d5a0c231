use Rattle.std.proofs.Common.{◌≡◌, take}
use Rattle.sql_steps.specs.Variables.{without}
use Rattle.sql_steps.proofs.lists.without.Given as goal

-- those so far
abbrev pub invariant-loop-u : goal.invariant-loop-u
invariant-loop-u l = l.list ≡ without (take l.u-index l.us) l.vs
