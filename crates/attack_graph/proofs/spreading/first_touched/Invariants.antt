use Rattle.std.proofs.Common.{ℕ, ◌<◌}
use Rattle.key_closure.specs.Members.{IsAmong}
use Rattle.attack_graph.specs.Attacking.{IsTouched}
use Rattle.attack_graph.proofs.spreading.first_touched.Given as goal

abbrev pub invariant-loop-atom : goal.invariant-loop-atom
invariant-loop-atom l = (K : ℕ) → K < l.atom → IsAmong l.named.query.now l.waiting K → IsTouched l.named.query.now l.named.view l.set K → ⊥
