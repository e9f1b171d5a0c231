use Rattle.std.proofs.Common.{◌≡◌, length}
use Rattle.join_access.specs.Listing.{names_of}
use Rattle.repair_clauses.specs.Avoiding.{AreMarkedWitnesses}
use Rattle.repair_clauses.proofs.avoiding.are_avoidable.Given as goal

-- the marks of the atoms so far are right
abbrev pub invariant-loop-at : goal.invariant-loop-at
invariant-loop-at l = record {
  size : length l.marks.items ≡ length l.witnesses.list;
  marks : AreMarkedWitnesses l.witnesses.bound.now.query.now l.witnesses.bound.now.db.now (names_of l.witnesses.list) l.marks.items;
}
