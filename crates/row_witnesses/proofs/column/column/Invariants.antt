use Rattle.std.proofs.Common.{◌≡◌, take, map}
use Rattle.row_witnesses.proofs.Columns.{place_in}
use Rattle.row_witnesses.proofs.column.column.Given as goal

-- the places in the witnesses so far
abbrev pub invariant-loop-witness : goal.invariant-loop-witness
invariant-loop-witness l = l.places.items ≡ map (place_in l.atom) (take l.witness-index l.witnesses)
