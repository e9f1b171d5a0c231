use Rattle.std.proofs.Common.{ℕ, ◌<◌, ◌↔◌}
use Rattle.key_closure.specs.Sets.{HasAtom}
use Rattle.key_closure.proofs.named.Named.left.Given as goal

abbrev pub invariant-loop-atom : goal.invariant-loop-atom
invariant-loop-atom l = (K : ℕ) → HasAtom l.atoms K ↔ ((K < l.atom) × (HasAtom l.self.view.gone K → ⊥))
