use Rattle.std.proofs.Common.{◌++◌, ◌∙◌, ap, codes}
use Rattle.std.proofs.lemmas.List.{append_assoc}
use Rattle.reply_text.specs.Texts.{kept_text}
use Rattle.reply_text.proofs.Pieces.{one_more}
use Rattle.reply_text.proofs.explained.append_against.Goals as goal

pub loop-line-preserved : goal.loop-line-preserved
loop-line-preserved c =
    let line = c.line-item.result in
    one_more (λ line. kept_text line ++ codes "\n") c.args.out.now.items c.loop-line.out.items c.append_words.new.out.items c.args.lines.now c.loop-line.line-index line c.loop-line-test.true c.line-item.is c.loop-line.invariant
    (c.in_ok-append_words.ensures ∙ ap (λ l. l ++ codes "\n") c.in_ok-append_kept.ensures ∙ append_assoc c.loop-line.out.items (kept_text line) (codes "\n"))
