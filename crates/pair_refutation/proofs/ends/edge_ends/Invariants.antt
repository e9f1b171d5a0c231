use Rattle.pair_refutation.specs.Edges.{AreEndsSoFar}
use Rattle.pair_refutation.proofs.ends.edge_ends.Given as goal

abbrev pub invariant-loop-v : goal.invariant-loop-v
invariant-loop-v l = AreEndsSoFar l.start l.edge l.ends.items l.count l.v 0

abbrev pub invariant-loop-i : goal.invariant-loop-i
invariant-loop-i l = AreEndsSoFar l.start l.edge l.ends.items l.count l.v l.i
