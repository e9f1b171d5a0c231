use Rattle.std.proofs.Common.{ℕ, ◌<◌}
use Rattle.query_class.specs.Cycles.{Reaches, IsStrong}
use Rattle.query_class.proofs.classes.is_on_strong_cycle.Given as goal

abbrev pub invariant-loop-atom : goal.invariant-loop-atom
invariant-loop-atom l = (F : ℕ) → F < l.atom → IsStrong l.graph F l.to → Reaches l.graph l.to F → ⊥
