use Rattle.std.proofs.Common.{take}
use Rattle.join_access.specs.Listing.{names_of}
use Rattle.row_lists.proofs.Placed.{ArePlacesIn}
use Rattle.row_lists.proofs.places.column.Given as goal

-- the places in the lists so far
abbrev pub invariant-loop-list : goal.invariant-loop-list
invariant-loop-list l = ArePlacesIn (names_of (take l.list-index l.lists)) l.table l.places.items
