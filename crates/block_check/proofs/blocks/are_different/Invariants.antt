use Rattle.block_check.proofs.Different.{KnowsRows}
use Rattle.block_check.proofs.blocks.are_different.Given as goal

-- the rows so far differ, and the set has them
abbrev pub invariant-loop-row : goal.invariant-loop-row
invariant-loop-row l = KnowsRows l.rows l.row-index l.seen
