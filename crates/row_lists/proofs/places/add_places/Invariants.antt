use Rattle.std.proofs.Common.{take}
use Rattle.row_lists.proofs.Placed.{AddsPlaces}
use Rattle.row_lists.proofs.places.add_places.Given as goal

-- the places in the names so far
abbrev pub invariant-loop-id : goal.invariant-loop-id
invariant-loop-id l = AddsPlaces l.fn.places.items (take l.id-index l.names) l.table l.places.items
