use Rattle.std.proofs.Common.{◌≡◌, length, take}
use Rattle.search_trail.specs.Trail.{held}
use Rattle.cdcl.specs.Looking.{IsReady, IsSameFormula}
use Rattle.cdcl.specs.Visits.{IsPrefix}
use Rattle.cdcl.proofs.solver.Solver.backjump.Given as goal

abbrev pub invariant-loop-self : goal.invariant-loop-self
invariant-loop-self l = record {
  ready : IsReady l.self;
  same : IsSameFormula l.initial.self l.self;
  kept : take l.end (held l.self.trail.items) ≡ take l.end (held l.initial.self.trail.items);
  fewer : IsPrefix l.self.trail.items l.initial.self.trail.items;
}

abbrev pub decreases-loop-self : goal.decreases-loop-self
decreases-loop-self l = length l.self.level_starts.items
