use Rattle.key_closure.specs.Sets.{size}
use Rattle.query_class.proofs.WalkSteps.{Walked}
use Rattle.query_class.proofs.walking.reach.Given as goal

abbrev pub decreases-walk : goal.decreases-walk
decreases-walk l = size l.waiting

abbrev pub invariant-walk : goal.invariant-walk
invariant-walk l = Walked l.graph l.from l.set l.waiting
