use Rattle.weak_pairs.specs.States.{IsPeeling, AreSettled}
use Rattle.weak_pairs.proofs.peel.Peeling.peel.Given as goal

abbrev pub invariant-loop-v : goal.invariant-loop-v
invariant-loop-v l = record {
  peeling : IsPeeling l.graph l.self;
  before : AreSettled l.graph l.self.matching l.v;
}
