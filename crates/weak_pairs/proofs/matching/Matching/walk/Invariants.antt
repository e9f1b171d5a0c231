use Rattle.weak_pairs.specs.Peeling.{open_count}
use Rattle.weak_pairs.proofs.Peeling.{IsWalked}
use Rattle.weak_pairs.proofs.matching.Matching.walk.Given as goal

abbrev pub invariant-walk : goal.invariant-walk
invariant-walk l = IsWalked l.graph l.fn.self l.self l.first l.at

abbrev pub decreases-walk : goal.decreases-walk
decreases-walk l = open_count l.self.own.items
