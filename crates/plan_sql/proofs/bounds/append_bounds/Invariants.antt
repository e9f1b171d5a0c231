use Rattle.std.proofs.Common.{◌≡◌, ◌++◌, take}
use Rattle.plan_sql.proofs.bounds.append_bounds.Given as goal

-- those so far
abbrev pub invariant-loop-bound : goal.invariant-loop-bound
invariant-loop-bound l = l.list ≡ l.fn.list ++ take l.bound-index l.bounds
