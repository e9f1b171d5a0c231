use Rattle.weak_pairs.specs.Digests.{lists_in}
use Rattle.weak_pairs.specs.EdgeNumbers.{AreChainedByLists}
use Rattle.weak_pairs.proofs.Chaining.{AreBehind}
use Rattle.weak_pairs.proofs.chains.number.Given as goal

abbrev pub invariant-back : goal.invariant-back
invariant-back l = (c : AreChainedByLists (lists_in l.lists.form) l.before) × AreBehind (lists_in l.lists.form) c.0 l.at l.left

abbrev pub decreases-back : goal.decreases-back
decreases-back l = l.left
