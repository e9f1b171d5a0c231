use Rattle.std.proofs.Common.{◌++◌, ◌∙◌, ap, codes}
use Rattle.std.proofs.lemmas.List.{append_assoc}
use Rattle.cqa_value.specs.Literals.{row_bytes}
use Rattle.reply_text.proofs.Pieces.{one_more}
use Rattle.reply_text.proofs.text.append_rows.Goals as goal

pub loop-row-preserved : goal.loop-row-preserved
loop-row-preserved c =
    let row = c.row-item.result in
    one_more (λ row. row_bytes row ++ codes "\n") c.args.out.now.items c.loop-row.out.items c.append_words.new.out.items c.args.rows.now c.loop-row.row-index row c.loop-row-test.true c.row-item.is c.loop-row.invariant
    (c.in_ok-append_words.ensures ∙ ap (λ l. l ++ codes "\n") c.in_ok-row_text.ensures.ok ∙ append_assoc c.loop-row.out.items (row_bytes row) (codes "\n"))
