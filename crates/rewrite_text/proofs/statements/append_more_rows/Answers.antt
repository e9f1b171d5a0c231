use Rattle.std.proofs.Common.{◌+◌, ◌++◌, ◌∙◌, ap, codes, drop, sym}
use Rattle.std.specs.List.{flat_map}
use Rattle.std.proofs.lemmas.Option.{slice_get_within, get_or_from_slice_get}
use Rattle.cqa_value.specs.Literals.{row_bytes}
use Rattle.rewrite_text.proofs.Drafting.{left_more, left_over, refused_on}
use Rattle.rewrite_text.proofs.statements.append_more_rows.Goals as goal

pub loop-at-preserved : goal.loop-at-preserved
loop-at-preserved c = record {
  text = left_more row_bytes (codes ", ") c.args.rows.now c.loop-at.at c.get-row.result.now c.loop-at.draft.out.items c.row_text.new.out.items (c.args.draft.now.out.items ++ flat_map (λ row. codes ", " ++ row_bytes row) c.args.rows.now)
      (slice_get_within c.args.rows.now c.loop-at.at c.get-row.result.now c.get-row.ensures) (sym (get_or_from_slice_get c.args.rows.now c.loop-at.at c.get-row.result.now c.get-row.result.now c.get-row.ensures))
      c.loop-at.invariant.text (c.in_ok-row_text.ensures.ok ∙ ap (λ z. z ++ row_bytes c.get-row.result.now) c.in_ok-append.ensures);
  start = c.loop-at.invariant.start;
}

pub returns-in_err-check-clause-over : goal.returns-in_err-check-clause-over
returns-in_err-check-clause-over c =
    let text = left_more row_bytes (codes ", ") c.args.rows.now c.loop-at.at c.get-row.result.now c.loop-at.draft.out.items c.row_text.new.out.items (c.args.draft.now.out.items ++ flat_map (λ row. codes ", " ++ row_bytes row) c.args.rows.now)
    (slice_get_within c.args.rows.now c.loop-at.at c.get-row.result.now c.get-row.ensures) (sym (get_or_from_slice_get c.args.rows.now c.loop-at.at c.get-row.result.now c.get-row.result.now c.get-row.ensures))
    c.loop-at.invariant.text (c.in_ok-row_text.ensures.ok ∙ ap (λ z. z ++ row_bytes c.get-row.result.now) c.in_ok-append.ensures) in
    refused_on (left_over c.row_text.new.out.items (flat_map (λ row. codes ", " ++ row_bytes row) (drop (c.loop-at.at + 1) c.args.rows.now)) (c.args.draft.now.out.items ++ flat_map (λ row. codes ", " ++ row_bytes row) c.args.rows.now)
    c.loop-at.draft.start c.args.draft.now.start text c.loop-at.invariant.start)
    c.from_residual-in_err-check.result c.in_err-check.field-0.0 c.from_residual-in_err-check.ensures.1 c.in_err-check.ensures.over
