use Rattle.std.proofs.Common.{◌≡◌, false, take}
use Rattle.sql_steps.specs.Variables.{meets}
use Rattle.sql_steps.proofs.lists.meets.Given as goal

-- none of those so far
abbrev pub invariant-loop-u : goal.invariant-loop-u
invariant-loop-u l = meets (take l.u-index l.us) l.vs ≡ false
