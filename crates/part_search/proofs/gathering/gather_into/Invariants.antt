use Rattle.std.proofs.Common.{◌≤◌, length, take}
use Rattle.join_access.specs.Listing.{names_of}
use Rattle.join_access.specs.declared.witness.TheConstants.{MOST_WITNESSES}
use Rattle.part_search.specs.Parts.{AreNamesIn}
use Rattle.part_search.specs.Lookups.{AreLookupsOf, TellCandidates}
use Rattle.part_search.proofs.gathering.gather_into.Given as goal

-- the witnesses of the parts so far
abbrev pub invariant-loop-at : goal.invariant-loop-at
invariant-loop-at l = record {
  lookups : AreLookupsOf l.parts.db.now l.parts.queries.now l.lookups;
  names : AreNamesIn (take l.at l.parts.queries.now) l.parts.db.now l.row (names_of l.lists.items);
  few : length l.lists.items ≤ MOST_WITNESSES;
  given : TellCandidates l.parts.db.now (take l.at l.parts.queries.now) l.row l.given.items;
}
