use Rattle.std.proofs.Common.{ℕ, ◌≡◌, ◌<◌, length, slice_index}
use Rattle.pair_refutation.proofs.edges.own_edges.Given as goal

abbrev pub invariant-loop-x : goal.invariant-loop-x
invariant-loop-x l = record {
  size : length l.edge.items ≡ l.x;
  own : (x : ℕ) → x < l.x → slice_index l.edge.items x ≡ x;
}
