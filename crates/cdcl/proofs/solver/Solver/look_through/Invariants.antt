use Rattle.std.proofs.Common.{◌≡◌, ◌≤◌, length, take, drop}
use Rattle.search_trail.specs.Trail.{held}
use Rattle.cdcl.specs.Looking.{IsLookingAt, Stays, IsGrown}
use Rattle.cdcl.proofs.solver.Solver.look_through.Given as goal

abbrev pub invariant-loop-at : goal.invariant-loop-at
invariant-loop-at l = record {
  order : l.kept ≤ l.at;
  len : length l.list.items ≡ l.at-end;
  looking : IsLookingAt l.self l.lit (take l.kept l.list.items) (drop l.at l.list.items);
  stays : Stays l.fn.self l.self;
  grows : IsGrown (held l.fn.self.trail.items) (held l.self.trail.items);
}
