use Rattle.std.proofs.Common.{◌++◌, ◌∷◌, [], map, take, ap, ◌∙◌, arith, sym}
use Rattle.std.proofs.lemmas.List.{take_all, take_more_set}
use Rattle.row_pieces.specs.Marks.{row_mark}
use Rattle.row_pieces.proofs.Marking.{map-more}
use Rattle.row_pieces.proofs.marked.set_marks.Goals as goal

pub loop-at-preserved : goal.loop-at-preserved
loop-at-preserved c =
    let rows = c.args.rows.now in
    let marks = c.loop-at.marks in
    let at = c.loop-at.at in
    let row = c.index-rows-at.result in
    let test = c.loop-at-test.true in
    let long = c.loop-at.auto.marks in
    let same = c.requires in
    take_more_set marks at c.mark_of_row.result (omega (arith, test, long, same))
    ∙ ap (λ zs. zs ++ c.mark_of_row.result ∷ []) c.loop-at.invariant
    ∙ ap (λ m. map row_mark (take at rows) ++ m ∷ []) c.mark_of_row.ensures
    ∙ map-more row_mark rows at row test c.index-rows-at.is

pub returns : goal.returns
returns c =
    let rows = c.args.rows.now in
    let marks = c.loop-at.marks in
    let at = c.loop-at.at in
    let done = c.loop-at-test.false in
    let long = c.loop-at.auto.marks in
    let same = c.requires in
    sym (take_all at marks (omega (arith, done, long, same))) ∙ c.loop-at.invariant ∙ ap (map row_mark) (take_all at rows (omega (arith, done)))
