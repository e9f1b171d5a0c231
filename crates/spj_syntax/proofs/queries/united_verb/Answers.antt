use Rattle.std.proofs.Common.{refl}
use Rattle.spj_syntax.proofs.Steps.{took_both, took_left, took_right, word_took, fails_first, fails_then, fails_right, exit}
use Rattle.spj_syntax.proofs.queries.united_verb.Goals as goal

pub returns-then-sees_word : goal.returns-then-sees_word
returns-then-sees_word c = took_left c.if-sees_word.ensures (word_took c.if-sees_word.ensures c.advance.ensures)

pub returns-then-sees_word-2 : goal.returns-then-sees_word-2
returns-then-sees_word-2 c = took_right refl c.if-sees_word.ensures (took_left c.if-sees_word-2.ensures (word_took c.if-sees_word-2.ensures c.advance-then-sees_word-2.ensures))

pub returns-then-sees_word-3 : goal.returns-then-sees_word-3
returns-then-sees_word-3 c = took_right refl c.if-sees_word.ensures (took_right refl c.if-sees_word-2.ensures (took_left c.if-sees_word-3.ensures (word_took c.if-sees_word-3.ensures c.advance-then-sees_word-3.ensures)))

pub returns-then-sees_word-4 : goal.returns-then-sees_word-4
returns-then-sees_word-4 c = took_right refl c.if-sees_word.ensures (took_right refl c.if-sees_word-2.ensures (took_right refl c.if-sees_word-3.ensures (took_left c.if-sees_word-4.ensures (word_took c.if-sees_word-4.ensures c.advance-then-sees_word-4.ensures))))

pub returns-in_err-word : goal.returns-in_err-word
returns-in_err-word c =
    exit _ _ c.from_residual.ensures.1 (fails_right refl c.if-sees_word.ensures (fails_right refl c.if-sees_word-2.ensures (fails_right refl c.if-sees_word-3.ensures (fails_right refl c.if-sees_word-4.ensures (fails_first c.in_err-word.ensures)))))

pub returns-in_err-row : goal.returns-in_err-row
returns-in_err-row c =
    exit _ _ c.from_residual-in_err-row.ensures.1 (fails_right refl c.if-sees_word.ensures (fails_right refl c.if-sees_word-2.ensures (fails_right refl c.if-sees_word-3.ensures (fails_right refl c.if-sees_word-4.ensures
    (fails_then c.in_ok-word.ensures c.in_err-row.ensures)))))

pub returns : goal.returns
returns c =
    took_right refl c.if-sees_word.ensures (took_right refl c.if-sees_word-2.ensures (took_right refl c.if-sees_word-3.ensures (took_right refl c.if-sees_word-4.ensures (took_both c.in_ok-word.ensures c.in_ok-row.ensures refl))))
