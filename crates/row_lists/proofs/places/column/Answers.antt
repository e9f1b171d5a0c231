use Rattle.std.proofs.Common.{List, [], sym, subst, arith}
use Rattle.std.proofs.lemmas.List.{take_all}
use Rattle.cqa_model.specs.declared.query.RowId.{RowId}
use Rattle.join_access.specs.declared.witness.Witness.{Witness}
use Rattle.join_access.specs.Listing.{names_of}
use Rattle.row_lists.proofs.Placed.{AddsPlaces, ArePlacesIn, in_none, in_next, in_order}
use Rattle.row_lists.proofs.places.column.Goals as goal

pub loop-list-init : goal.loop-list-init
loop-list-init c = subst (ArePlacesIn [] c.args.table) (sym c.new-places.ensures.items) (in_none c.args.table)

pub loop-list-preserved : goal.loop-list-preserved
loop-list-preserved c =
    in_next c.args.lists.now c.loop-list.list-index c.list-item.result c.args.table c.loop-list.places.items c.add_places.new.places.items (omega (arith, c.loop-list-test.true)) c.list-item.is c.loop-list.invariant
    (subst (λ (ns : List RowId). AddsPlaces c.loop-list.places.items ns c.args.table c.add_places.new.places.items) c.as_slice.ensures c.in_ok-add_places.ensures)

pub returns : goal.returns
returns c =
    in_order (names_of c.args.lists.now) c.args.table c.loop-list.places.items c.put_in_order.new.numbers.items
    (subst (λ (ws : List Witness). ArePlacesIn (names_of ws) c.args.table c.loop-list.places.items) (take_all c.loop-list.list-index c.args.lists.now (omega (arith, c.loop-list-test.false))) c.loop-list.invariant)
    c.put_in_order.ensures.rises c.put_in_order.ensures.same
