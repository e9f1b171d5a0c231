use Rattle.std.proofs.Common.{ℕ, ◌<◌, ◌↔◌, ◌⊎◌}
use Rattle.key_closure.specs.Sets.{HasAtom}
use Rattle.key_closure.proofs.atom_set.AtomSet.union.Given as goal

abbrev pub invariant-loop-atom : goal.invariant-loop-atom
invariant-loop-atom l = (j : ℕ) → HasAtom l.set j ↔ (HasAtom l.self j ⊎ ((j < l.atom) × HasAtom l.other j))
