use Rattle.std.proofs.Common.{ℕ, ◌<◌, ◌↔◌}
use Rattle.cqa_model.specs.Graph.{IsWeak}
use Rattle.key_closure.specs.Sets.{HasAtom}
use Rattle.key_closure.specs.Members.{seen}
use Rattle.attack_graph.proofs.building.weak_row.Given as goal

abbrev pub invariant-loop-atom : goal.invariant-loop-atom
invariant-loop-atom l = (K : ℕ) → HasAtom l.atoms K ↔ ((K < l.atom) × IsWeak l.named.query.now (seen l.named.query.now l.named.view) l.from K)
