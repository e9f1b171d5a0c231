use Rattle.std.proofs.Common.{◌<◌}
use Rattle.key_closure.specs.Sets.{HasAtom}
use Rattle.fo_rewrite.proofs.preference.preferred.Given as goal

-- the best so far is in the one set and outside the other
abbrev pub invariant-loop-atom : goal.invariant-loop-atom
invariant-loop-atom l = (l.best < 12) × HasAtom l.left l.best × (HasAtom l.attacked l.best → ⊥)
