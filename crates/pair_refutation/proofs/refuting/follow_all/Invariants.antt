use Rattle.pair_refutation.specs.Refuting.{IsSoFar, AreMarked}
use Rattle.pair_refutation.proofs.refuting.follow_all.Given as goal

abbrev pub invariant-loop-place : goal.invariant-loop-place
invariant-loop-place l = record {
  so_far : IsSoFar l.cnf l.steps.items l.lost;
  marked : AreMarked l.graph l.order l.lost l.place;
}
