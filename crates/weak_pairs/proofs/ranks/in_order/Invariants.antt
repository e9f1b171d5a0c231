use Rattle.std.proofs.Common.{◌≡◌, ◌<◌, ℕ, length, slice_index}
use Rattle.weak_pairs.proofs.ranks.in_order.Given as goal

-- the places so far
abbrev pub invariant-loop-at : goal.invariant-loop-at
invariant-loop-at l = record {
  size : length l.order.items ≡ l.at;
  each : (i : ℕ) → i < l.at → slice_index l.order.items i ≡ i;
}
