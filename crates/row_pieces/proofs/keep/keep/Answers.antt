use Rattle.std.proofs.Common.{◌≡◌, ◌<◌, length, map, ap, true, false, arith, subst, sym, ◌∙◌}
use borrow.Author.Rules.{of_calls}
use Rattle.std.proofs.lemmas.List.Filters.{FiltersInPlace-more_no, FiltersInPlace-more_swap}
use Rattle.std.specs.List.{swap}
use Rattle.row_pieces.specs.Marks.{row_mark}
use Rattle.row_pieces.proofs.Marking.{map-swap}
use Rattle.row_pieces.proofs.Answering.{answers}
use Rattle.row_pieces.proofs.keep.keep.Goals as goal
use Rattle.row_pieces.proofs.keep.keep.Goals.{then-stays, else-stays}

pub loop-at-preserved : goal.loop-at-preserved
loop-at-preserved g c =
    let inside = c.loop-at-test.true in
    let long = c.loop-at.auto.rows in
    let there : c.loop-at.at < length c.loop-at.rows = omega (arith, inside, long) in
    let count = c.loop-at.invariant.count in
    elim c.if-stays.branch [
      | then-stays w ↦ record {
        count = (let is = w.kept-is in omega (arith, is, count));
        marked = rw (w.rows-is, w.marks-is) (w.swap-then-stays.ensures.after ∙ ap (λ zs. swap zs c.loop-at.kept c.loop-at.at) c.loop-at.invariant.marked ∙ sym (map-swap row_mark c.loop-at.rows c.loop-at.kept c.loop-at.at) ∙ ap (map row_mark) (sym w.swap.ensures.after));
        callable = search of_calls;
        kept = λ p k. (let i = c.loop-at.invariant.kept p k in
            let n = answers p i.0 c.stays.ensures in (
              n.0,
              rw (w.rows-is, w.kept-is)
                  (FiltersInPlace-more_swap {x = c.index-rows-at.result} i.1 there (subst (λ row. p row ≡ true) (sym c.index-rows-at.is) (sym n.1 ∙ w.if-stays.true)) c.index-rows-at.is w.swap.ensures.by_index),
            ));
      }
      | else-stays w ↦ record {
        count = (let is = w.kept-is in omega (arith, is, count));
        marked = rw (w.rows-is, w.marks-is) c.loop-at.invariant.marked;
        callable = search of_calls;
        kept = λ p k. (let i = c.loop-at.invariant.kept p k in
            let n = answers p i.0 c.stays.ensures in (
              n.0,
              rw (w.rows-is, w.kept-is)
                  (FiltersInPlace-more_no {x = c.index-rows-at.result} i.1 there (subst (λ row. p row ≡ false) (sym c.index-rows-at.is) (sym n.1 ∙ w.if-stays.false)) c.index-rows-at.is),
            ));
      }
    ]
