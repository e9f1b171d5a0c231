use Rattle.join_access.specs.Listing.{names_of}
use Rattle.list_search.specs.Avoiding.{AreLooseMarks}
use Rattle.list_search.proofs.avoiding.loose_rows.Given as goal

-- the marks of the slots so far
abbrev pub invariant-loop-slot : goal.invariant-loop-slot
invariant-loop-slot l = AreLooseMarks l.lists.db.now l.lists.frame.now.tables l.lists.columns (names_of l.lists.lists.now) l.slot l.loose.items
