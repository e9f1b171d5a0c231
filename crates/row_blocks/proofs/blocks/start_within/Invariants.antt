use Rattle.std.proofs.Common.{ℕ, ◌≤◌, ◌<◌, ◌-◌, [], slice_index_or}
use Rattle.cqa_model.specs.Repairs.{SharesKey}
use Rattle.row_blocks.proofs.blocks.start_within.Given as goal

-- the first row of the block stands between the bounds
abbrev pub invariant-loop-low : goal.invariant-loop-low
invariant-loop-low l = record {
  order : l.low ≤ l.high;
  within : l.high ≤ l.at;
  outside : (i : ℕ) → i < l.low → SharesKey l.key (slice_index_or l.rows l.at []) (slice_index_or l.rows i []) → ⊥;
  inside : SharesKey l.key (slice_index_or l.rows l.at []) (slice_index_or l.rows l.high []);
}

abbrev pub decreases-loop-low : goal.decreases-loop-low
decreases-loop-low l = l.high - l.low
