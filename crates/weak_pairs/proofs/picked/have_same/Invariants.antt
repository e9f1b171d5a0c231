use Rattle.std.proofs.Common.{◌≡◌, ◌<◌, ℕ, slice_index, slice_index_or}
use Rattle.cqa_value.specs.Values.{nothing}
use Rattle.weak_pairs.proofs.picked.have_same.Given as goal

-- the values are the same so far
abbrev pub invariant-loop-at : goal.invariant-loop-at
invariant-loop-at l = (k : ℕ) → k < l.at → slice_index_or l.a (slice_index l.left k) nothing ≡ slice_index_or l.b (slice_index l.right k) nothing
