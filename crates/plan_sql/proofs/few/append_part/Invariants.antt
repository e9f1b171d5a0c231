use Rattle.std.proofs.Common.{◌≡◌, ◌++◌}
use Rattle.plan_sql.proofs.Steps.{part_so_far}
use Rattle.plan_sql.proofs.few.append_part.Given as goal

-- those so far
abbrev pub invariant-loop-column : goal.invariant-loop-column
invariant-loop-column l = l.only ≡ l.fn.only ++ part_so_far l.vs l.known l.part l.column
