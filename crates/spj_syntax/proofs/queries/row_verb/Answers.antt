use Rattle.std.proofs.Common.{refl}
use Rattle.spj_syntax.proofs.Steps.{took_both, took_left, took_right, word_took, fails_first, fails_then, fails_left, fails_right, opens_then, exit}
use Rattle.spj_syntax.proofs.queries.row_verb.Goals as goal

pub returns-in_err-doubted : goal.returns-in_err-doubted
returns-in_err-doubted c = exit _ _ c.from_residual.ensures.1 (fails_left (opens_then refl c.if-sees_word.ensures) (fails_then (word_took c.if-sees_word.ensures c.advance.ensures) c.in_err-doubted.ensures))

pub returns-then-sees_word : goal.returns-then-sees_word
returns-then-sees_word c = took_left (opens_then refl c.if-sees_word.ensures) (took_both (word_took c.if-sees_word.ensures c.advance.ensures) c.in_ok-doubted.ensures refl)

pub returns-in_err-word : goal.returns-in_err-word
returns-in_err-word c = exit _ _ c.from_residual-in_err-word.ensures.1 (fails_right refl (opens_then refl c.if-sees_word.ensures) (fails_first c.in_err-word.ensures))

pub returns-in_err-row : goal.returns-in_err-row
returns-in_err-row c = exit _ _ c.from_residual-in_err-row.ensures.1 (fails_right refl (opens_then refl c.if-sees_word.ensures) (fails_then c.in_ok-word.ensures c.in_err-row.ensures))

pub returns : goal.returns
returns c = took_right refl (opens_then refl c.if-sees_word.ensures) (took_both c.in_ok-word.ensures c.in_ok-row.ensures refl)
