use Rattle.std.proofs.Common.{◌≡◌}
use Rattle.std.specs.Vec.Iter.{into_iter_items}
use Rattle.part_search.specs.Lookups.{AreLookupsOf}
use Rattle.union_ask.specs.Knowing.{IsSearchOf}
use Rattle.union_ask.proofs.Searching.{AreDecided}
use Rattle.union_ask.proofs.search.sift_all.Given as goal

-- the rows so far are decided
abbrev pub invariant-loop-row : goal.invariant-loop-row
invariant-loop-row l = record {
  decided : AreDecided l.parts.db.now l.parts.queries.now l.side (into_iter_items l.initial.row-iterator) l.answers.items (into_iter_items l.row-iterator);
  lookups : AreLookupsOf l.parts.db.now l.parts.queries.now l.lookups;
  search : IsSearchOf l.parts.db.now l.parts.queries.now l.search;
  budget : l.search.budget ≡ l.fn.search.budget;
}
