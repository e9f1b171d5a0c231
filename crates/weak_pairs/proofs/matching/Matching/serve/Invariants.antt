use Rattle.std.proofs.Common.{ℕ, ◌<◌}
use Rattle.weak_pairs.specs.Peeling.{IsServed}
use Rattle.weak_pairs.specs.States.{IsMatching, AllSettled}
use Rattle.weak_pairs.proofs.matching.Matching.serve.Given as goal

abbrev pub invariant-loop-v : goal.invariant-loop-v
invariant-loop-v l = record {
  matching : IsMatching l.graph l.self;
  settled : AllSettled l.graph l.self;
  served : (u : ℕ) → u < l.v → IsServed l.self.own.items u;
}
