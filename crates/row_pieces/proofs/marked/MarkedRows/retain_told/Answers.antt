use Rattle.std.proofs.Common.{◌+◌, ◌-◌, ◌++◌, filter, map, take, drop, length, ap, sym, ◌∙◌, arith}
use Rattle.std.specs.Vec.{with_items}
use Rattle.std.proofs.lemmas.List.{with_items_is}
use Rattle.row_pieces.specs.Marks.{row_mark}
use Rattle.row_pieces.specs.Retained.{retained}
use Rattle.row_pieces.proofs.Marking.{map-part}
use Rattle.row_pieces.proofs.marked.MarkedRows.retain_told.Goals as goal

pub invariant_of-self : goal.invariant_of-self
invariant_of-self c =
    let end = c.args.from + c.keep_told_in-kept.result in
    let rows = c.self.inside.rows in
    let marks = c.self.inside.marks in
    let kept = c.keep_told_in-kept.new.rows in
    let rows_is = with_items_is rows kept (let a = c.keep_told_in-kept.auto.rows in let b = ap length c.as_mut_slice-rows.ensures.value in let d = rows.ok.0 in omega (arith, a, b, d)) in
    let marks_is = with_items_is marks c.keep_told_in-kept.new.marks (let a = c.keep_told_in-kept.auto.marks in let b = ap length c.as_mut_slice.ensures.value in let d = marks.ok.0 in omega (arith, a, b, d)) in
    c.cut_out-2.ensures
    ∙ ap (λ zs. take end zs ++ drop c.args.to zs) (marks_is ∙ c.keep_told_in-kept.ensures.marked ∙ ap (map row_mark) (sym rows_is))
    ∙ map-part row_mark (with_items rows kept).items end c.args.to
    ∙ ap (map row_mark) (sym c.cut_out.ensures)

pub returns-clause-retained : goal.returns-clause-retained
returns-clause-retained c p k =
    let from = c.args.from in
    let to = c.args.to in
    let end = from + c.keep_told_in-kept.result in
    let rows = c.self.inside.rows in
    let kept = c.keep_told_in-kept.new.rows in
    let was = c.as_mut_slice-rows.result.now in
    let same = c.as_mut_slice-rows.ensures.value ∙ c.self.view_is in
    let rows_is = with_items_is rows kept (let a = c.keep_told_in-kept.auto.rows in let b = ap length c.as_mut_slice-rows.ensures.value in let d = rows.ok.0 in omega (arith, a, b, d)) in
    c.cut_out.ensures
    ∙ ap (λ zs. take end zs ++ drop to zs) rows_is
    ∙ ap (λ zs. zs ++ drop to kept) (c.keep_told_in-kept.ensures.kept p (k ∙ ap (λ zs. map p (take (to - from) (drop from zs))) (sym same)))
    ∙ ap (λ zs. (take from was ++ filter p (take (to - from) (drop from was))) ++ zs) c.keep_told_in-kept.ensures.behind
    ∙ ap (retained p from to) same
