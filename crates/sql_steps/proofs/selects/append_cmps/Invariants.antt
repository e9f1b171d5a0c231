use Rattle.std.proofs.Common.{◌≡◌, ◌++◌, take}
use Rattle.sql_steps.proofs.selects.append_cmps.Given as goal

-- those so far
abbrev pub invariant-loop-cmp : goal.invariant-loop-cmp
invariant-loop-cmp l = l.all ≡ l.fn.all ++ take l.cmp-index l.cmps
