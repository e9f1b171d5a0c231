use Rattle.std.proofs.Common.{Some, sym, ap, ◌∙◌, arith, true≢false}
use Rattle.std.proofs.lemmas.Option.{same_Some, slice_get_within}
use Rattle.cqa_value.specs.Values.{row_decides}
use Rattle.row_pieces.proofs.rows.Rows.stands.Goals as goal

pub returns-then-at-len : goal.returns-then-at-len
returns-then-at-len c = (
  λ t. absurd (true≢false (sym t)),
  λ e. absurd (let there = slice_get_within c.args.self.now c.args.at c.args.row.now e in let past = c.if-at-len.true in let all = c.len.ensures in omega (arith, there, past, all)),
)

pub returns-then-told_apart : goal.returns-then-told_apart
returns-then-told_apart c = (λ t. absurd (true≢false (sym t)), λ e. absurd (c.told_apart.ensures c.if-told_apart.true c.args.row.now e (sym c.mark_of_row.ensures)))

pub returns : goal.returns
returns c =
    let other = c.get.result.now in
    let row = c.args.row.now in
    let decides = row_decides other row in (
      λ t. c.get.ensures ∙ ap Some (decides.0 (sym c.eq.ensures ∙ t)),
      λ e. c.eq.ensures ∙ decides.1 (same_Some other row (sym c.get.ensures ∙ e)),
    )
