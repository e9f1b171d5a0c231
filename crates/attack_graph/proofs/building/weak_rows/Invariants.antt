use Rattle.std.proofs.Common.{ℕ, ◌≡◌, ◌<◌, ◌↔◌, length}
use Rattle.cqa_model.specs.Graph.{IsWeak}
use Rattle.key_closure.specs.Members.{seen}
use Rattle.attack_graph.specs.Pairs.{HasPair}
use Rattle.attack_graph.proofs.building.weak_rows.Given as goal

abbrev pub invariant-loop-atom : goal.invariant-loop-atom
invariant-loop-atom l = record { size : length l.rows ≡ 12; rows : (F G : ℕ) → HasPair l.rows F G ↔ ((F < l.atom) × ((G < length l.named.query.now.atoms) × IsWeak l.named.query.now (seen l.named.query.now l.named.view) F G)) }
