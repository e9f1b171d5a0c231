use Rattle.std.proofs.Common.{ℕ, ◌<◌}
use Rattle.key_closure.specs.Sets.{HasAtom}
use Rattle.key_closure.proofs.atom_set.AtomSet.is_empty.Given as goal

abbrev pub invariant-loop-atom : goal.invariant-loop-atom
invariant-loop-atom l = (k : ℕ) → k < l.atom → HasAtom l.self k → ⊥
