use Rattle.std.proofs.Common.{◌≡◌, ◌<◌, [], get_or, length, map, ap, arith, sym, ◌∙◌}
use Rattle.std.proofs.lemmas.List.Filters.{FiltersInPlace-more_no, FiltersInPlace-more_swap}
use Rattle.std.proofs.lemmas.List.{get_or_default}
use Rattle.std.specs.List.{swap}
use Rattle.row_pieces.specs.Marks.{row_mark}
use Rattle.row_pieces.proofs.Marking.{map-swap}
use Rattle.row_pieces.proofs.Telling.{told_at}
use Rattle.row_pieces.proofs.keep.keep_told.Goals as goal
use Rattle.row_pieces.proofs.keep.keep_told.Goals.{then-stays-at, else-stays-at}

pub loop-at-preserved : goal.loop-at-preserved
loop-at-preserved c =
    let inside = c.loop-at-test.true in
    let long = c.loop-at.auto.rows in
    let there : c.loop-at.at < length c.loop-at.rows = omega (arith, inside, long) in
    let count = c.loop-at.invariant.count in
    let row = get_or c.loop-at.rows c.loop-at.at [] in
    let is : row ≡ get_or c.loop-at.rows c.loop-at.at row = get_or_default c.loop-at.rows c.loop-at.at [] row there in
    elim c.if-stays-at.branch [
      | then-stays-at w ↦ record {
        count = (let is = w.kept-is in omega (arith, is, count));
        marked = rw (w.rows-is, w.marks-is) (w.swap-then-stays-at.ensures.after ∙ ap (λ zs. swap zs c.loop-at.kept c.loop-at.at) c.loop-at.invariant.marked ∙ sym (map-swap row_mark c.loop-at.rows c.loop-at.kept c.loop-at.at) ∙ ap (map row_mark) (sym w.swap.ensures.after));
        kept = λ p k. (let i = c.loop-at.invariant.kept p k in
            rw (w.rows-is, w.kept-is) (FiltersInPlace-more_swap {x = row} i there (told_at p c.args.stays.now _ k i there w.if-stays-at.true is) is w.swap.ensures.by_index));
      }
      | else-stays-at w ↦ record {
        count = (let is = w.kept-is in omega (arith, is, count));
        marked = rw (w.rows-is, w.marks-is) c.loop-at.invariant.marked;
        kept = λ p k. (let i = c.loop-at.invariant.kept p k in
            rw (w.rows-is, w.kept-is) (FiltersInPlace-more_no {x = row} i there (told_at p c.args.stays.now _ k i there w.if-stays-at.false is) is));
      }
    ]
