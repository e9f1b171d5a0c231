use Rattle.std.proofs.Common.{◌≡◌, ◌<◌, true, false, not, length, get_or, arith, subst, sym, ap, ◌∙◌, take, true≢false}
use Rattle.std.proofs.lemmas.List.{get_or-drop, get_or_default, length-set}
use Rattle.std.specs.List.{AllByRecursion}
use Rattle.std.specs.declared.cmp.Ordering.TheVariants.{Less}
use Rattle.std.proofs.lemmas.List.Filters.{FiltersInPlace-more_no, FiltersInPlace-more_swap}
use Rattle.cqa_value.proofs.Words.{Contains-slice_get}
use Rattle.cqa_model.specs.Database.{block_cmp}
use Rattle.table_blocks.specs.Tables.{IsPlace}
use Rattle.table_changes.specs.Changes.{is_among}
use Rattle.row_order.proofs.BlockOrder.{block_total, block_exact, block_alike}
use Rattle.table_changes.proofs.Placing.{below_later, places_more, places_same}
use Rattle.table_blocks.proofs.Sorting.{absent}
use Rattle.table_changes.proofs.Membership.{among, not_among}
use Rattle.table_changes.proofs.fresh.fresh_first.Goals as goal
use Rattle.table_changes.proofs.fresh.fresh_first.Goals.{then-not-stands, else-not-stands}

pub loop-at-preserved : goal.loop-at-preserved
loop-at-preserved c =
    let key = c.args.key.now in
    let stored = c.args.stored.now in
    let xs = c.args.rows.now in
    let at = c.loop-at.at in
    let row = c.index-rows-at.result in
    let i = c.loop-at.invariant.fresh in
    let inside = c.loop-at-test.true in
    let long = c.loop-at.auto.rows in
    let there : at < length c.loop-at.rows = omega (arith, inside, long) in
    let same : get_or c.loop-at.rows at row ≡ get_or xs at row = subst (λ n. get_or c.loop-at.rows n row ≡ get_or xs n row) (omega arith) (sym (get_or-drop at c.loop-at.rows 0 row) ∙ ap (λ l. get_or l 0 row) i.rest ∙ get_or-drop at xs 0 row) in
    let x = get_or c.loop-at.rows at row in
    let cmp = block_cmp key in
    let below = subst (λ y. AllByRecursion (λ other. cmp other y ≡ Less) (take c.loop-at.from stored)) (sym same) (c.loop-at.invariant.below at row (omega arith) inside) in
    let place : IsPlace cmp stored x c.place_from-from.result = c.place_from-from.ensures.place c.requires.stored below in
    let is : x ≡ get_or xs at x = same ∙ get_or_default xs at row x inside in
    let later = below_later cmp (block_total key) (block_exact key) (block_alike key) xs stored at c.place_from-from.result x c.requires.given is place in
    let count = c.loop-at.invariant.count in
    elim c.if-not-stands.branch [
      | then-not-stands w ↦ record {
        count = (let e = w.fresh-is in omega (arith, e, count));
        there = c.place_from-from.ensures.within;
        below = later;
        fresh = (let new : not (is_among stored x) ≡ true =
            (not_among stored x).1 (absent cmp (block_total key) (block_exact key) (block_alike key) stored x c.place_from-from.result c.requires.stored place (λ e. true≢false (sym (c.stands.ensures.1 e) ∙ w.if-not-stands.true))) in
            rw (w.rows-is, w.fresh-is) (FiltersInPlace-more_swap {x = x} i there new (get_or_default c.loop-at.rows at row x there) w.swap.ensures.by_index));
        long = rw w.places-is (length-set c.loop-at.places c.loop-at.fresh c.place_from-from.result ∙ c.loop-at.invariant.long);
        placed = rw (w.places-is, w.fresh-is) (places_more cmp stored (λ row. not (is_among stored row)) xs at row inside c.loop-at.places c.loop-at.fresh c.place_from-from.result
            (subst (λ y. not (is_among stored y) ≡ true) same
            ((not_among stored x).1 (absent cmp (block_total key) (block_exact key) (block_alike key) stored x c.place_from-from.result c.requires.stored place (λ e. true≢false (sym (c.stands.ensures.1 e) ∙ w.if-not-stands.true)))))
            (let count = c.loop-at.invariant.count in let size = c.loop-at.invariant.long in omega (arith, count, inside, size))
            (subst (λ y. IsPlace cmp stored y c.place_from-from.result) same place) c.loop-at.invariant.placed);
      }
      | else-not-stands w ↦ record {
        count = (let e = w.fresh-is in omega (arith, e, count));
        there = c.place_from-from.ensures.within;
        below = later;
        fresh = (let known : not (is_among stored x) ≡ false = ap not ((among stored x).1 (Contains-slice_get stored c.place_from-from.result x (c.stands.ensures.0 w.if-not-stands.false))) in
            rw (w.rows-is, w.fresh-is) (FiltersInPlace-more_no {x = x} i there known (get_or_default c.loop-at.rows at row x there)));
        long = rw w.places-is c.loop-at.invariant.long;
        placed = rw (w.places-is, w.fresh-is) (places_same cmp stored (λ row. not (is_among stored row)) xs at row inside (take c.loop-at.fresh c.loop-at.places)
            (subst (λ y. not (is_among stored y) ≡ false) same (ap not ((among stored x).1 (Contains-slice_get stored c.place_from-from.result x (c.stands.ensures.0 w.if-not-stands.false))))) c.loop-at.invariant.placed);
      }
    ]
