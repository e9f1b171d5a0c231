use Rattle.std.proofs.Common.{length}
use Rattle.table_changes.proofs.Stretches.{IsLeftFrom}
use Rattle.table_changes.proofs.preferred.keep_staying.Given as goal

abbrev pub invariant-loop-end : goal.invariant-loop-end
invariant-loop-end l = IsLeftFrom l.fn.db l.table l.tests l.from (length l.fn.stays) l.db l.end

abbrev pub decreases-loop-end : goal.decreases-loop-end
decreases-loop-end l = l.end
