use Rattle.std.proofs.Common.{take}
use Rattle.cnf_form.specs.Literals.{literals}
use Rattle.join_access.specs.Listing.{names_of}
use Rattle.row_lists.specs.Encodings.{AddsLists}
use Rattle.row_lists.proofs.clauses.add_lists.Given as goal

-- the clauses of the lists so far
abbrev pub invariant-loop-list : goal.invariant-loop-list
invariant-loop-list l = AddsLists l.lists.frame.now.tables l.blocks.spans (names_of (take l.list-index l.lists.lists.now)) (literals l.fn.clauses.items) (literals l.clauses.items)
