use Rattle.std.proofs.Common.{◌-◌}
use Rattle.weak_pairs.specs.Peeling.{AreRowsSeen}
use Rattle.weak_pairs.proofs.peel.Peeling.look.Given as goal

abbrev pub invariant-scan : goal.invariant-scan
invariant-scan l = AreRowsSeen l.graph.start.now l.graph.edge.now l.self.matching.taken.items l.at l.keep l.next

abbrev pub decreases-scan : goal.decreases-scan
decreases-scan l = l.end - l.next
