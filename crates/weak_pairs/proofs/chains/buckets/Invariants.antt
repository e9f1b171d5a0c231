use Rattle.std.proofs.Common.{◌≡◌, ◌<◌, ℕ, length, slice_index}
use Rattle.weak_pairs.specs.Digests.{bucket_of, lists_in}
use Rattle.weak_pairs.proofs.chains.buckets.Given as goal

-- the buckets of the rows so far
abbrev pub invariant-loop-at : goal.invariant-loop-at
invariant-loop-at l = record {
  size : length l.buckets.items ≡ l.at;
  are : (i : ℕ) → i < l.at → slice_index l.buckets.items i ≡ bucket_of (length (lists_in l.lists.form)) l.lists.form i;
}
