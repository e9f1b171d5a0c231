use Rattle.std.proofs.Common.{length}
use Rattle.row_cursor.specs.Blocks.{blocks_left}
use Rattle.pair_answers.proofs.Walking.{AreEndsSoFar}
use Rattle.pair_answers.proofs.starts.append_ends.Given as goal

abbrev pub invariant-loop-block : goal.invariant-loop-block
invariant-loop-block l = AreEndsSoFar l.first l.initial.ends.items (blocks_left l.initial.cursor) (blocks_left l.cursor) l.ends.items l.end

abbrev pub decreases-loop-block : goal.decreases-loop-block
decreases-loop-block l = length (blocks_left l.cursor)
