use Rattle.part_search.specs.Spoken.{LosesNone}
use Rattle.part_search.proofs.Scoping.{AreSpokenTo}
use Rattle.part_search.proofs.scope.add_spoken.Given as goal

-- the columns of the atoms so far
abbrev pub invariant-loop-atom : goal.invariant-loop-atom
invariant-loop-atom l = record {
  kept : LosesNone l.initial.columns.items l.columns.items;
  spoken : AreSpokenTo l.query l.table l.atom l.columns.items;
}
