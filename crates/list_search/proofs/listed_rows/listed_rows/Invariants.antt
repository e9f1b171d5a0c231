use Rattle.std.proofs.Common.{◌*◌, ◌≤◌, length}
use Rattle.cqa_model.specs.declared.limits.TheConstants.{MOST_ROWS}
use Rattle.join_access.specs.Listing.{names_of}
use Rattle.list_search.specs.Quotients.{AreNumberedTo}
use Rattle.list_search.proofs.listed_rows.listed_rows.Given as goal

-- the rows of the slots so far have numbers
abbrev pub invariant-loop-slot : goal.invariant-loop-slot
invariant-loop-slot l = record {
  few : length l.numbered.items ≤ MOST_ROWS * l.slot;
  rows : AreNumberedTo l.lists.frame.now.tables (names_of l.lists.lists.now) l.slot l.numbered.items;
}
