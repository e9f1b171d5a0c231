use Rattle.std.proofs.Common.{◌≡◌, true, take}
use Rattle.sql_steps.specs.Variables.{covers}
use Rattle.sql_steps.proofs.lists.covers.Given as goal

-- those so far
abbrev pub invariant-loop-u : goal.invariant-loop-u
invariant-loop-u l = covers l.vs (take l.u-index l.us) ≡ true
