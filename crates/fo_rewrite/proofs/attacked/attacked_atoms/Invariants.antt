use Rattle.std.proofs.Common.{ℕ, ◌<◌, ◌↔◌}
use Rattle.cqa_model.specs.Graph.{Attacks}
use Rattle.key_closure.specs.Sets.{HasAtom}
use Rattle.key_closure.specs.Members.{seen}
use Rattle.fo_rewrite.proofs.attacked.attacked_atoms.Given as goal

-- the atoms that one of the first attacks
abbrev pub invariant-loop-atom : goal.invariant-loop-atom
invariant-loop-atom l = (G : ℕ) → HasAtom l.attacked G ↔ ((F : ℕ) × (F < l.atom) × Attacks l.named.query.now (seen l.named.query.now l.named.view) F G)
