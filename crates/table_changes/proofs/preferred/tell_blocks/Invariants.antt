use Rattle.std.proofs.Common.{length}
use Rattle.table_changes.proofs.Preferring.{AreRead}
use Rattle.table_changes.proofs.preferred.tell_blocks.Given as goal

abbrev pub invariant-loop-row : goal.invariant-loop-row
invariant-loop-row l = AreRead l.key l.rows l.tests l.stays l.block.start l.block.read l.block.passes l.left l.last

abbrev pub decreases-loop-row : goal.decreases-loop-row
decreases-loop-row l = length l.left
