use Rattle.std.proofs.Common.{◌+◌, ◌∷◌, ◌++◌, ◌∙◌, [], codes, ap, append_assoc}
use Rattle.std.specs.Fmt.{decimal}
use Rattle.std.proofs.lemmas.Result.{on_ok_weaker}
use Rattle.reply_text.proofs.Pieces.{two_more}
use Rattle.reply_text.proofs.united.append_part_end.Goals as goal

pub returns : goal.returns
returns c =
    let start = c.args.out.now.items in
    let words = codes "\n) AS " ++ 34 ∷ codes "part " in
    let first = c.append_words.new.out.items in
    let number = decimal (c.args.before + 1) in
    on_ok_weaker c.append_words-2.result
    (λ e. two_more start first c.append_words-2.new.out.items words number (34 ∷ []) c.in_ok-append_words.ensures (e ∙ ap (λ l. l ++ 34 ∷ []) c.in_ok-append_number.ensures ∙ append_assoc first number (34 ∷ [])))
    c.append_words-2.ensures
