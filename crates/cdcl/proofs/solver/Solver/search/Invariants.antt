use Rattle.std.proofs.Common.{◌-◌, length}
use Rattle.cdcl.specs.Looking.{IsReady, IsSameFormula}
use Rattle.cdcl.proofs.solver.Solver.search.Given as goal

abbrev pub invariant-loop-conflict : goal.invariant-loop-conflict
invariant-loop-conflict l = record {
  ready : IsReady l.self;
  same : IsSameFormula l.initial.self l.self;
}

abbrev pub decreases-loop-conflict : goal.decreases-loop-conflict
decreases-loop-conflict l = length l.self.places.items - length l.self.trail.items
