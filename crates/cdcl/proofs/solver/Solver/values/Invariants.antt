use Rattle.std.proofs.Common.{◌≡◌, ◌+◌, length}
use Rattle.search_trail.specs.Trail.{held}
use Rattle.cdcl.specs.Visits.{AgreesBelow}
use Rattle.cdcl.proofs.solver.Solver.values.Given as goal

abbrev pub invariant-loop-var : goal.invariant-loop-var
invariant-loop-var l = record {
  count : length l.values.items + 1 ≡ l.var;
  agrees : AgreesBelow l.var l.values.items (held l.self.trail.items);
}
