use Rattle.std.proofs.Common.{ℕ, ◌<◌}
use Rattle.key_closure.specs.Sets.{HasAtom}
use Rattle.fo_rewrite.proofs.attacked.first_outside.Given as goal

abbrev pub invariant-loop-atom : goal.invariant-loop-atom
invariant-loop-atom l = (G : ℕ) → G < l.atom → HasAtom l.set G → HasAtom l.other G
