use Rattle.std.proofs.Common.{◌≡◌, ◌∙◌, ◌<◌, length, take, sym, ap, subst, arith}
use Rattle.std.specs.Prelude.{Some}
use Rattle.std.proofs.lemmas.List.{take_all}
use Rattle.cqa_model.specs.Database.{stored}
use Rattle.cqa_model.specs.Query.{rows_of}
use Rattle.join_access.specs.Listing.{names_of}
use Rattle.row_witnesses.specs.Columns.{place_at}
use Rattle.range_ask.specs.Ranges.{cell}
use Rattle.range_ask.specs.Finding.{row_in_block}
use Rattle.range_join.specs.Peaks.{best_at, further, AreBest, GivesValue, IsPeak}
use Rattle.range_join.proofs.Carrying.{names-more, witness-size, witness-there, best-more}
use Rattle.range_join.proofs.carriers.carriers.Goals as goal

pub place_of-place-requires : goal.place_of-place-requires
place_of-place-requires c =
    let m = (names-more c.as_slice-witness-items.result.now c.args.found.now.list c.as_slice-witness-items.ensures c.loop-witness.witness-index c.loop-witness-test.true c.witness-item.result c.witness-item.is).0 in
    subst (λ n. c.args.look.lax < n) (sym (witness-size c.args.found.now c.witness-item.result m)) c.requires.lax

pub row_of-row-requires-clause-atom : goal.row_of-row-requires-clause-atom
row_of-row-requires-clause-atom c =
    let m = (names-more c.as_slice-witness-items.result.now c.args.found.now.list c.as_slice-witness-items.ensures c.loop-witness.witness-index c.loop-witness-test.true c.witness-item.result c.witness-item.is).0 in
    subst (λ n. c.args.look.atom < n) (sym (witness-size c.args.found.now c.witness-item.result m)) c.requires.atom

pub row_of-row-requires-clause-there : goal.row_of-row-requires-clause-there
row_of-row-requires-clause-there c =
    let found = c.args.found.now in
    let m = (names-more c.as_slice-witness-items.result.now found.list c.as_slice-witness-items.ensures c.loop-witness.witness-index c.loop-witness-test.true c.witness-item.result c.witness-item.is).0 in
    subst (λ rows. place_at c.witness-item.result.rows c.args.look.atom < length rows) (sym c.rows_of-rows.ensures.rows) (witness-there found c.witness-item.result m c.args.look.atom c.requires.atom)

pub add_row-requires : goal.add_row-requires
add_row-requires c =
    let found = c.args.found.now in
    let q = found.bound.now.query.now in
    let db = found.bound.now.db.now in
    let m = (names-more c.as_slice-witness-items.result.now found.list c.as_slice-witness-items.ensures c.loop-witness.witness-index c.loop-witness-test.true c.witness-item.result c.witness-item.is).0 in
    let size : length c.loop-witness.bests.items ≡ length (rows_of q (stored db) c.args.look.lax) = c.loop-witness.invariant.0 ∙ (c.len-count.ensures ∙ ap length c.rows_of.ensures.rows) in
    subst (λ n. c.place_of-place.result < n) (sym size)
    (subst (λ p. p < length (rows_of q (stored db) c.args.look.lax)) (sym c.place_of-place.ensures) (witness-there found c.witness-item.result m c.args.look.lax c.requires.lax))

pub loop-witness-preserved : goal.loop-witness-preserved
loop-witness-preserved c =
    let found = c.args.found.now in
    let look = c.args.look in
    let q = found.bound.now.query.now in
    let db = found.bound.now.db.now in
    let rows = rows_of q (stored db) look.atom in
    let i = c.loop-witness.witness-index in
    let item = c.witness-item.result in
    let more = (names-more c.as_slice-witness-items.result.now found.list c.as_slice-witness-items.ensures i c.loop-witness-test.true item c.witness-item.is).1 in
    let old = c.loop-witness.bests.items in
    let new = c.add_row.new.bests.items in
    let at = c.place_of-place.result in
    let row-is = c.row_of-row.ensures ∙ ap (λ rs. row_in_block rs (place_at item.rows look.atom)) c.rows_of-rows.ensures.rows in (
      c.add_row.ensures.size ∙ c.loop-witness.invariant.0,
      subst (λ all. AreBest look.way (GivesValue rows all look.lax look.atom look.col) c.len-count.result (best_at look.col new)) (sym more)
          (best-more look.way rows look.lax look.atom look.col c.len-count.result (names_of (take i found.list)) item.rows old new at c.place_of-place.ensures c.loop-witness.invariant.1
          (c.add_row.ensures.here ∙ ap (λ r. further look.way (best_at look.col old at) (Some (cell r look.col))) row-is) c.add_row.ensures.others),
    )

pub returns-clause-best : goal.returns-clause-best
returns-clause-best c p l =
    let found = c.args.found.now in
    let look = c.args.look in
    let rows = rows_of found.bound.now.query.now (stored found.bound.now.db.now) look.atom in
    let i = c.loop-witness.witness-index in
    let test = c.loop-witness-test.false in
    let all = ap length c.as_slice-witness-items.ensures in
    subst (λ xs. IsPeak look.way (GivesValue rows (names_of xs) look.lax look.atom look.col p) (best_at look.col c.loop-witness.bests.items p)) (take_all i found.list (omega (arith, test, all)))
    (c.loop-witness.invariant.1 p (subst (λ n. p < n) c.loop-witness.invariant.0 l))
