use Rattle.std.proofs.Common.{length}
use Rattle.table_blocks.specs.Tables.{rows_at, key_at}
use Rattle.row_blocks.specs.Blocks.{blocks_of}
use Rattle.range_ask.specs.Ranges.{meets}
use Rattle.range_ask.specs.Finding.{IsMetSoFar}
use Rattle.range_ask.specs.Walking.{IsReading}
use Rattle.range_ask.specs.Reaching.{AreExtremes}
use Rattle.range_ask.proofs.extremes.find_extremes.Given as goal

abbrev pub invariant-loop-row : goal.invariant-loop-row
invariant-loop-row l =
    IsReading (λ front. AreExtremes l.look.way (meets l.look.tests.now) l.look.col (rows_at l.db l.table) front l.ends) (λ block n. IsMetSoFar l.look.way (meets l.look.tests.now) l.look.col block n l.held)
    (blocks_of (key_at l.db l.table) (rows_at l.db l.table)) l.left l.last l.held.start l.held.read

abbrev pub decreases-loop-row : goal.decreases-loop-row
decreases-loop-row l = length l.left
