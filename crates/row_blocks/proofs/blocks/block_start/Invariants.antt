use Rattle.std.proofs.Common.{◌≤◌, ◌<◌, [], slice_index_or}
use Rattle.cqa_model.specs.Repairs.{SharesKey}
use Rattle.row_blocks.proofs.blocks.block_start.Given as goal

-- the row is of the block
abbrev pub invariant-loop-start : goal.invariant-loop-start
invariant-loop-start l = record {
  below : l.start ≤ l.at;
  step : 0 < l.step;
  alike : SharesKey l.key (slice_index_or l.rows l.at []) (slice_index_or l.rows l.start []);
}

abbrev pub decreases-loop-start : goal.decreases-loop-start
decreases-loop-start l = l.start
