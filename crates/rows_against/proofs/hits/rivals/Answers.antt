use Rattle.std.proofs.Common.{◌<◌, ◌∷◌, List, Option, ℕ, [], None, length, length-append, get_or, ap, sym, subst, arith}
use Rattle.join_access.specs.Listing.{names_of}
use Rattle.row_witnesses.proofs.Told.{all_names}
use Rattle.cqa_value.specs.declared.value.Value.{Value}
use Rattle.rows_against.specs.Hits.{IsHitBy}
use Rattle.rows_against.specs.Numbers.{row_name}
use Rattle.rows_against.proofs.Pushing.{pushed}
use Rattle.rows_against.proofs.Reading.{place_there}
use Rattle.rows_against.proofs.Walking.{apart_at, hit_at, part_at}
use Rattle.rows_against.proofs.hits.rivals.Goals as goal

pub rival_of-requires-clause-there : goal.rival_of-requires-clause-there
rival_of-requires-clause-there c =
    let w = c.args.witnesses.now in
    let b = w.bound.now in
    let places = c.column-places.result.now in
    let i = c.loop-place.place-index in
    subst (λ (rs : List (List Value)). get_or places i 0 < length rs) (sym c.rows_of-rows.ensures.rows)
    (place_there b.query.now b.db.now w.row.now w.list (all_names w) c.args.at c.requires.there places c.column-places.ensures.column i c.loop-place-test.true)

pub rival_of-requires-clause-part : goal.rival_of-requires-clause-part
rival_of-requires-clause-part c =
    let w = c.args.witnesses.now in
    let b = w.bound.now in
    part_at b.db.now b.query.now b.fits (names_of w.list) c.args.names.now c.requires.chosen c.args.at c.args.from c.requires.there c.requires.begins c.table_of-table.result c.table_of-table.ensures.table

pub rival_of-requires-clause-apart : goal.rival_of-requires-clause-apart
rival_of-requires-clause-apart c =
    let w = c.args.witnesses.now in
    let b = w.bound.now in
    apart_at b.db.now b.query.now b.fits (names_of w.list) c.args.names.now c.requires.chosen c.args.at c.args.from c.requires.there c.requires.begins
    c.table_of-table.result c.table_of-table.ensures.table c.rows_of-rows.result c.rows_of-rows.ensures.rows c.key_of-key.result.now c.key_of-key.ensures

pub loop-place-preserved : goal.loop-place-preserved
loop-place-preserved c =
    let w = c.args.witnesses.now in
    let b = w.bound.now in
    let places = c.column-places.result.now in
    let found = c.loop-place.found.items in
    let at = c.loop-place.place-index in
    let one = c.rival_of.result in
    let size = c.loop-place.invariant.size in
    let items = c.in_ok-push.ensures.items in
    let hit = hit_at b.db.now b.query.now b.fits (names_of w.list) c.args.names.now c.requires.chosen c.args.at c.args.from c.requires.there c.requires.begins
    c.table_of-table.result c.table_of-table.ensures.table c.rows_of-rows.result c.rows_of-rows.ensures.rows c.key_of-key.result.now c.key_of-key.ensures (get_or places at 0) one c.rival_of.ensures in
    record {
      size = let long = ap length items in let more = length-append found (one ∷ []) in omega (arith, long, more, size);
      rivals = λ i l. subst (λ (xs : List (Option ℕ)). IsHitBy b.db.now c.args.names.now (row_name b.query.now c.args.at (get_or places i 0)) (get_or xs i None)) (sym items)
          (pushed None (λ i r. IsHitBy b.db.now c.args.names.now (row_name b.query.now c.args.at (get_or places i 0)) r) found one at size c.loop-place.invariant.rivals hit i l);
    }
