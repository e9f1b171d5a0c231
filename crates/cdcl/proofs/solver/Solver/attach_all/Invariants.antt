use Rattle.std.proofs.Common.{◌≡◌, length}
use Rattle.cdcl.specs.Looking.{IsWatchful, IsUntouched, IsSameFormula}
use Rattle.cdcl.proofs.solver.Solver.attach_all.Given as goal

abbrev pub invariant-loop-index : goal.invariant-loop-index
invariant-loop-index l = record {
  watchful : IsWatchful l.self;
  first : IsUntouched l.self;
  same : IsSameFormula l.initial.self l.self;
  count : length l.self.pairs.items ≡ l._index;
}
