use Rattle.std.proofs.Common.{◌≤◌, ◌<◌, ◌-◌, [], length, slice_index_or}
use Rattle.cqa_model.specs.Repairs.{SharesKey}
use Rattle.row_blocks.proofs.blocks.block_end.Given as goal

-- the row is of the block
abbrev pub invariant-loop-last : goal.invariant-loop-last
invariant-loop-last l = record {
  above : l.at ≤ l.last;
  within : l.last < length l.rows;
  step : 0 < l.step;
  alike : SharesKey l.key (slice_index_or l.rows l.at []) (slice_index_or l.rows l.last []);
}

abbrev pub decreases-loop-last : goal.decreases-loop-last
decreases-loop-last l = length l.rows - l.last
