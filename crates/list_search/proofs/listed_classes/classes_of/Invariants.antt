use Rattle.join_access.specs.Listing.{names_of}
use Rattle.row_lists.specs.Spans.{variables_of_spans}
use Rattle.list_search.specs.Quotients.{AreClassedTo}
use Rattle.list_search.proofs.listed_classes.classes_of.Given as goal

-- the rows of the slots so far have classes
abbrev pub invariant-loop-slot : goal.invariant-loop-slot
invariant-loop-slot l = AreClassedTo l.lists.db.now l.lists.frame.now.tables l.scope.columns (variables_of_spans l.numbered.spans) (names_of l.lists.lists.now) l.slot l.classes.items
