use Rattle.std.proofs.Common.{◌≡◌, ℕ, ◌<◌, length, slice_index}
use Rattle.cqa_model.proofs.naming.first_classes.Given as goal

abbrev pub invariant-loop-i : goal.invariant-loop-i
invariant-loop-i l = record { size : length l.class ≡ 192; done : (k : ℕ) → k < l.i → slice_index l.class k ≡ k }
