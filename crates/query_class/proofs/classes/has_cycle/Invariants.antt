use Rattle.std.proofs.Common.{ℕ, ◌<◌}
use Rattle.query_class.specs.Cycles.{Reaches}
use Rattle.query_class.proofs.classes.has_cycle.Given as goal

abbrev pub invariant-loop-atom : goal.invariant-loop-atom
invariant-loop-atom l = (F : ℕ) → F < l.atom → Reaches l.graph F F → ⊥
