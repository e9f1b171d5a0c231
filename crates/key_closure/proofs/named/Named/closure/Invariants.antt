use Rattle.key_closure.specs.Sets.{size}
use Rattle.key_closure.proofs.Growing.{Grown}
use Rattle.key_closure.proofs.named.Named.closure.Given as goal

abbrev pub decreases-grow : goal.decreases-grow
decreases-grow l = size l.waiting

abbrev pub invariant-grow : goal.invariant-grow
invariant-grow l = Grown l.self.query.now l.self.view l.start l.atoms l.set l.waiting
