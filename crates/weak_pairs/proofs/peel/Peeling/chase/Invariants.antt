use Rattle.weak_pairs.specs.Peeling.{open_count}
use Rattle.weak_pairs.proofs.Peeling.{IsChased}
use Rattle.weak_pairs.proofs.peel.Peeling.chase.Given as goal

abbrev pub invariant-chase : goal.invariant-chase
invariant-chase l = IsChased l.graph l.self l.first l.at

abbrev pub decreases-chase : goal.decreases-chase
decreases-chase l = open_count l.self.matching.own.items
