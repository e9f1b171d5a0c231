use Rattle.std.proofs.Common.{ℕ, ◌≤◌, ◌<◌, ◌-◌, [], length, slice_index_or}
use Rattle.cqa_model.specs.Repairs.{SharesKey}
use Rattle.row_blocks.proofs.blocks.end_within.Given as goal

-- the end of the block stands between the bounds
abbrev pub invariant-loop-low : goal.invariant-loop-low
invariant-loop-low l = record {
  above : l.at < l.low;
  order : l.low ≤ l.high;
  within : l.high ≤ length l.rows;
  inside : (i : ℕ) → l.at ≤ i → i < l.low → SharesKey l.key (slice_index_or l.rows l.at []) (slice_index_or l.rows i []);
  outside : (i : ℕ) → l.high ≤ i → i < length l.rows → SharesKey l.key (slice_index_or l.rows l.at []) (slice_index_or l.rows i []) → ⊥;
}

abbrev pub decreases-loop-low : goal.decreases-loop-low
decreases-loop-low l = l.high - l.low
