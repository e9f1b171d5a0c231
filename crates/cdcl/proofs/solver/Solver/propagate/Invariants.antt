use Rattle.std.proofs.Common.{◌≡◌, ◌≤◌, ◌-◌, length}
use Rattle.cdcl.specs.Looking.{IsReady, IsSameFormula}
use Rattle.cdcl.proofs.solver.Solver.propagate.Given as goal

abbrev pub invariant-loop-self : goal.invariant-loop-self
invariant-loop-self l = record {
  ready : IsReady l.self;
  grows : length l.initial.self.trail.items ≤ length l.self.trail.items;
  same : IsSameFormula l.initial.self l.self;
  level_starts : l.self.level_starts ≡ l.initial.self.level_starts;
}

abbrev pub decreases-loop-self : goal.decreases-loop-self
decreases-loop-self l = length l.self.places.items - l.self.head
