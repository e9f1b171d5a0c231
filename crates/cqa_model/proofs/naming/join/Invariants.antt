use Rattle.std.proofs.Common.{◌≡◌, ℕ, ◌<◌, ◌≤◌, slice_index}
use Rattle.cqa_model.specs.Labels.{relabel}
use Rattle.cqa_model.proofs.naming.join.Given as goal

abbrev pub invariant-loop-c : goal.invariant-loop-c
invariant-loop-c l = record {
  done : (i : ℕ) → i < l.c-index → slice_index l.class i ≡ relabel l.a l.b (slice_index l.fn.class i);
  left : (i : ℕ) → l.c-index ≤ i → slice_index l.class i ≡ slice_index l.fn.class i;
}
