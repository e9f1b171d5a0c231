use Rattle.std.proofs.Common.{length}
use Rattle.row_cursor.specs.Blocks.{blocks_left}
use Rattle.range_ask.proofs.Filled.{IsFilled}
use Rattle.range_ask.proofs.groups.add_table.Given as goal

abbrev pub invariant-loop-block : goal.invariant-loop-block
invariant-loop-block l = IsFilled l.ask.goal.now l.ask.tests.now l.ask.col (blocks_left l.initial.blocks) (blocks_left l.blocks) l.number l.groups

abbrev pub decreases-loop-block : goal.decreases-loop-block
decreases-loop-block l = length (blocks_left l.blocks)
