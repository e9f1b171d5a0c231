use Rattle.weak_pairs.specs.Digests.{lists_in}
use Rattle.weak_pairs.specs.EdgeNumbers.{AreChainedByLists, AreNumbersSoFar}
use Rattle.weak_pairs.proofs.chains.edge_numbers.Given as goal

abbrev pub invariant-loop-at : goal.invariant-loop-at
invariant-loop-at l = record {
  chained : AreChainedByLists (lists_in l.lists.form) l.before.items;
  numbered : AreNumbersSoFar (lists_in l.lists.form) l.at l.edge.items l.count;
}
