use Rattle.std.proofs.Common.{◌≡◌, ◌≤◌, ℕ, length, take, slice_index}
use Rattle.weak_pairs.specs.EdgeNumbers.{AreChained, AreLast}
use Rattle.weak_pairs.proofs.chains.chains.Given as goal

abbrev pub invariant-loop-at : goal.invariant-loop-at
invariant-loop-at l = record {
  size : length l.before.items ≡ length l.fn.buckets.items;
  buckets : length l.last ≡ length l.fn.buckets.items;
  last : AreLast (slice_index l.fn.buckets.items) l.at l.last;
  chained : AreChained (slice_index l.fn.buckets.items) (length l.fn.buckets.items) l.at (take l.at l.before.items);
  rest : (i : ℕ) → l.at ≤ i → slice_index l.before.items i ≡ slice_index l.fn.buckets.items i;
}
