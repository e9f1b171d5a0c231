use Rattle.std.proofs.Common.{◌≡◌, ◌<◌, ℕ, length, slice_index}
use Rattle.weak_pairs.specs.Digests.{lists_in}
use Rattle.weak_pairs.specs.EdgeNumbers.{HaveOne}
use Rattle.weak_pairs.specs.Ranks.{IsRank}
use Rattle.weak_pairs.proofs.ranks.ranks.Given as goal

-- the ranks of the rows so far that have a list
abbrev pub invariant-loop-at : goal.invariant-loop-at
invariant-loop-at l = record {
  size : length l.ranks.items ≡ l.at;
  are : (i : ℕ) → i < l.at → HaveOne (lists_in l.lists.form) i i → IsRank l.lists.form l.order.items i (slice_index l.ranks.items i) × (slice_index l.ranks.items i < length (lists_in l.lists.form));
}
