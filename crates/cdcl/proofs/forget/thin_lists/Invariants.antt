use Rattle.std.proofs.Common.{◌≡◌, length}
use Rattle.cdcl.specs.Watching.{AreThinned}
use Rattle.cdcl.proofs.forget.thin_lists.Given as goal

abbrev pub invariant-loop-at : goal.invariant-loop-at
invariant-loop-at l = record {
  thinned : AreThinned l.permanent l.initial.lists.items l.lists.items;
  len : length l.lists.items ≡ l.at-end;
}
