use Rattle.std.proofs.Common.{◌++◌, ◌∙◌, ap, codes}
use Rattle.std.proofs.lemmas.List.{append_assoc}
use Rattle.reply_text.specs.Texts.{kept_text}
use Rattle.reply_text.proofs.Pieces.{one_more}
use Rattle.reply_text.proofs.explained.append_kept_rows.Goals as goal

pub loop-line-preserved : goal.loop-line-preserved
loop-line-preserved c =
    let line = c.line-item.result in
    one_more (λ line. codes "\n" ++ kept_text line) c.args.out.now.items c.loop-line.out.items c.append_kept.new.out.items c.args.lines.now c.loop-line.line-index line c.loop-line-test.true c.line-item.is c.loop-line.invariant
    (c.in_ok-append_kept.ensures ∙ ap (λ l. l ++ kept_text line) c.in_ok-append_words.ensures ∙ append_assoc c.loop-line.out.items (codes "\n") (kept_text line))
