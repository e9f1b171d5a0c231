use Rattle.key_closure.specs.Sets.{size}
use Rattle.attack_graph.proofs.SpreadSteps.{Spread}
use Rattle.attack_graph.proofs.spreading.reached_from.Given as goal

abbrev pub decreases-spread : goal.decreases-spread
decreases-spread l = size l.waiting

abbrev pub invariant-spread : goal.invariant-spread
invariant-spread l = Spread l.named.query.now l.named.view l.from l.set l.waiting
