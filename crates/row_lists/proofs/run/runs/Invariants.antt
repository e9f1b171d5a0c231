use Rattle.std.proofs.Common.{◌-◌, length}
use Rattle.row_lists.proofs.Running.{AreRunsTo}
use Rattle.row_lists.proofs.run.runs.Given as goal

-- the places so far have their blocks
abbrev pub invariant-loop-i : goal.invariant-loop-i
invariant-loop-i l = AreRunsTo l.key l.rows l.slot l.base l.places l.i l.end l.next l.spans

abbrev pub decreases-loop-i : goal.decreases-loop-i
decreases-loop-i l = length l.places - l.i
