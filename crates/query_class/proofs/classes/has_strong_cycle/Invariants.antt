use Rattle.std.proofs.Common.{ℕ, ◌<◌}
use Rattle.query_class.specs.Cycles.{Reaches, IsStrong}
use Rattle.query_class.proofs.classes.has_strong_cycle.Given as goal

abbrev pub invariant-loop-atom : goal.invariant-loop-atom
invariant-loop-atom l = (G : ℕ) → G < l.atom → (F : ℕ) → IsStrong l.graph F G → Reaches l.graph G F → ⊥
