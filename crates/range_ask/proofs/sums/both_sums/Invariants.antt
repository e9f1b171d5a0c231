use Rattle.std.proofs.Common.{length}
use Rattle.table_blocks.specs.Tables.{rows_at, key_at}
use Rattle.row_blocks.specs.Blocks.{blocks_of}
use Rattle.range_ask.specs.Ranges.{meets}
use Rattle.range_ask.specs.Picks.{worth}
use Rattle.range_ask.specs.Finding.{added, AreBests}
use Rattle.range_ask.specs.Walking.{IsReading, AreSides}
use Rattle.range_ask.proofs.sums.both_sums.Given as goal

abbrev pub invariant-loop-row : goal.invariant-loop-row
invariant-loop-row l =
    IsReading (λ front. AreSides (worth (meets l.tests) (added l.goal)) (rows_at l.db l.table) front l.sides) (λ block n. AreBests (worth (meets l.tests) (added l.goal)) block n l.held)
    (blocks_of (key_at l.db l.table) (rows_at l.db l.table)) l.left l.last l.held.start l.held.read

abbrev pub decreases-loop-row : goal.decreases-loop-row
decreases-loop-row l = length l.left
