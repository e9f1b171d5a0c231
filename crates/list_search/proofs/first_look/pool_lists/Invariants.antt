use Rattle.std.proofs.Common.{take}
use Rattle.join_access.specs.Listing.{names_of}
use Rattle.row_lists.specs.Encodings.{AddsLists}
use Rattle.list_search.proofs.first_look.pool_lists.Given as goal

-- the clauses of the lists so far
abbrev pub invariant-loop-list : goal.invariant-loop-list
invariant-loop-list l = AddsLists l.lists.frame.now.tables l.blocks.spans (names_of (take l.list-index l.lists.lists.now)) l.fn.formula l.formula
