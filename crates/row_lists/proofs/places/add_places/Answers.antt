use Rattle.std.proofs.Common.{◌++◌, ◌∷◌, ◌∙◌, [], Vec, Global, List, ℕ, get_or, take, ap, sym, subst, arith}
use Rattle.std.proofs.lemmas.List.{take_more, take_all}
use Rattle.cqa_model.specs.declared.query.RowId.{RowId}
use Rattle.row_lists.specs.Lists.{name}
use Rattle.row_lists.proofs.Placed.{AddsPlaces, places_put, places_left}
use Rattle.row_lists.proofs.places.add_places.Goals.{then-id-table+in_ok-push, else-id-table}
use Rattle.row_lists.proofs.places.add_places.Goals as goal

pub loop-id-preserved : goal.loop-id-preserved
loop-id-preserved c =
    let names = c.args.names.now in
    let old = c.args.places.now.items in
    let table = c.args.table in
    let i = c.loop-id.id-index in
    let id : RowId = get_or names i (name 0 0) in
    let more = take_more names i (name 0 0) (omega (arith, c.loop-id-test.true)) in
    subst (λ (ns : List RowId). AddsPlaces old ns table c.if-id-table.places.items) (sym more) (elim c.if-id-table.branch [
      | then-id-table+in_ok-push w ↦ subst (AddsPlaces old (take i names ++ id ∷ []) table) (sym (ap (λ (v : Vec ℕ Global). v.items) w.places-is ∙ w.in_ok-push.ensures.items)) (places_put old (take i names) id table c.loop-id.places.items c.loop-id.invariant w.if-id-table.true)
      | else-id-table w ↦ subst (AddsPlaces old (take i names ++ id ∷ []) table) (sym (ap (λ (v : Vec ℕ Global). v.items) w.places-is)) (places_left old (take i names) id table c.loop-id.places.items c.loop-id.invariant w.if-id-table.false)
    ])

pub returns : goal.returns
returns c = subst (λ (ns : List RowId). AddsPlaces c.args.places.now.items ns c.args.table c.loop-id.places.items) (take_all c.loop-id.id-index c.args.names.now (omega (arith, c.loop-id-test.false))) c.loop-id.invariant
