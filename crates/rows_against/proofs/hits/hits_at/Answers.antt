use Rattle.std.proofs.Common.{◌<◌, ◌∙◌, ◌∷◌, List, ℕ, Option, [], None, ap, arith, get_or, length, length-append, subst, sym}
use Rattle.join_access.specs.declared.witness.Witness.{Witness}
use Rattle.join_access.specs.Listing.{names_of}
use Rattle.row_witnesses.specs.Columns.{place_at}
use Rattle.row_witnesses.proofs.Told.{all_names}
use Rattle.rows_against.specs.Hits.{IsHitBy}
use Rattle.rows_against.specs.Numbers.{AreRivals, row_name}
use Rattle.rows_against.proofs.Pushing.{pushed}
use Rattle.rows_against.proofs.Reading.{its_hit, its_long, its_place}
use Rattle.rows_against.proofs.hits.hits_at.Goals as goal

pub place_of-place-requires : goal.place_of-place-requires
place_of-place-requires c =
    let w = c.args.witnesses.now in
    let b = w.bound.now in
    let at = c.loop-witness.witness-index in
    let one = c.witness-item.result in
    let e = c.as_slice-list.ensures in
    its_long b.query.now b.db.now w.row.now w.list (all_names w) c.args.at c.requires.there at (subst (λ (ws : List Witness). at < length ws) e c.loop-witness-test.true) one
    (c.witness-item.is ∙ ap (λ ws. get_or ws at one) e)

pub rival_at-requires-clause-there : goal.rival_at-requires-clause-there
rival_at-requires-clause-there c =
    let w = c.args.witnesses.now in
    let b = w.bound.now in
    let at = c.loop-witness.witness-index in
    let one = c.witness-item.result in
    let e = c.as_slice-list.ensures in
    its_place b.query.now b.db.now w.row.now w.list (all_names w) c.args.at c.requires.there at (subst (λ (ws : List Witness). at < length ws) e c.loop-witness-test.true) one
    (c.witness-item.is ∙ ap (λ ws. get_or ws at one) e) c.column-places.result.now c.column-places.ensures.column c.place_of-place.result c.place_of-place.ensures

pub loop-witness-preserved : goal.loop-witness-preserved
loop-witness-preserved c =
    let w = c.args.witnesses.now in
    let b = w.bound.now in
    let q = b.query.now in
    let at = c.loop-witness.witness-index in
    let one = c.witness-item.result in
    let e = c.as_slice-list.ensures in
    let hits = c.loop-witness.hits.items in
    let hit = c.rival_at.result in
    let items = c.in_ok-push.ensures.items in
    let size = c.loop-witness.invariant.size in
    let places = c.column-places.result.now in
    let found = c.as_slice.result.now in
    let rivals = subst (λ (fs : List (Option ℕ)). AreRivals b.db.now q c.args.names.now c.args.at places fs) (sym c.as_slice.ensures.value)
    (subst (λ (ps : List ℕ). AreRivals b.db.now q c.args.names.now c.args.at ps c.in_ok-found.found.items) (sym c.column-places.ensures.is) c.in_ok-found.ensures.rivals) in
    let its = its_hit q b.db.now w.row.now w.list (all_names w) c.args.at c.requires.there at (subst (λ (ws : List Witness). at < length ws) e c.loop-witness-test.true) one
    (c.witness-item.is ∙ ap (λ ws. get_or ws at one) e) c.args.names.now places found rivals c.place_of-place.result hit c.place_of-place.ensures c.rival_at.ensures in
    record {
      size = let long = ap length items in let more = length-append hits (hit ∷ []) in omega (arith, long, more, size);
      hits = λ i l. subst (λ (xs : List (Option ℕ)). IsHitBy b.db.now c.args.names.now (row_name q c.args.at (place_at (get_or (names_of w.list) i []) c.args.at)) (get_or xs i None)) (sym items)
          (pushed None (λ i r. IsHitBy b.db.now c.args.names.now (row_name q c.args.at (place_at (get_or (names_of w.list) i []) c.args.at)) r) hits hit at size c.loop-witness.invariant.hits its i l);
    }
