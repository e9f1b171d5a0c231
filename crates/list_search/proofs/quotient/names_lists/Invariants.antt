use Rattle.std.proofs.Common.{take}
use Rattle.join_access.specs.Listing.{names_of}
use Rattle.row_lists.specs.Spans.{variables_of_spans}
use Rattle.list_search.specs.Classing.{AreListsOf}
use Rattle.list_search.specs.Quotients.{AreClassesOf}
use Rattle.list_search.proofs.quotient.names_lists.Given as goal

-- the classes of the lists so far
abbrev pub invariant-loop-list : goal.invariant-loop-list
invariant-loop-list l = AreListsOf (AreClassesOf l.frame.tables (variables_of_spans l.classed.rows.spans) l.classed.classes.items) (names_of (take l.list-index l.lists)) l.numbers.items
