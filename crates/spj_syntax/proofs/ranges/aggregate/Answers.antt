use Rattle.std.proofs.Common.{refl}
use Rattle.spj_syntax.proofs.Steps.{took_left, took_right, word_took, fails_right, exit}
use Rattle.spj_syntax.proofs.ranges.aggregate.Goals as goal

pub returns-then-sees_word : goal.returns-then-sees_word
returns-then-sees_word c = took_left c.if-sees_word.ensures (word_took c.if-sees_word.ensures c.advance.ensures)

pub returns-then-sees_word-2 : goal.returns-then-sees_word-2
returns-then-sees_word-2 c = took_right refl c.if-sees_word.ensures (took_left c.if-sees_word-2.ensures (word_took c.if-sees_word-2.ensures c.advance-then-sees_word-2.ensures))

pub returns-in_err-word : goal.returns-in_err-word
returns-in_err-word c = exit _ _ c.from_residual.ensures.1 (fails_right refl c.if-sees_word.ensures (fails_right refl c.if-sees_word-2.ensures c.in_err-word.ensures))

pub returns : goal.returns
returns c = took_right refl c.if-sees_word.ensures (took_right refl c.if-sees_word-2.ensures c.in_ok-word.ensures)
