use Rattle.std.proofs.Common.{refl}
use Rattle.spj_syntax.proofs.Steps.{took_both, took_left, took_right, took_nothing, word_took, opens_then, fails_first, fails_then, fails_left, exit}
use Rattle.spj_syntax.proofs.ranges.join_grouped.Goals as goal

pub returns-in_err-word : goal.returns-in_err-word
returns-in_err-word c =
    exit _ _ c.from_residual.ensures.1 (fails_left (opens_then refl c.if-sees_word.ensures)
    (fails_then (word_took c.if-sees_word.ensures c.advance.ensures) (fails_first c.in_err-word.ensures)))

pub returns-in_err-group : goal.returns-in_err-group
returns-in_err-group c =
    exit _ _ c.from_residual-in_err-group.ensures.1 (fails_left (opens_then refl c.if-sees_word.ensures)
    (fails_then (word_took c.if-sees_word.ensures c.advance.ensures) (fails_then c.in_ok-word.ensures c.in_err-group.ensures)))

pub returns-then-sees_word : goal.returns-then-sees_word
returns-then-sees_word c =
    took_left (opens_then refl c.if-sees_word.ensures) (took_both (word_took c.if-sees_word.ensures c.advance.ensures)
    (took_both c.in_ok-word.ensures c.in_ok-group.ensures refl) refl)

pub returns : goal.returns
returns c = took_right refl (opens_then refl c.if-sees_word.ensures) took_nothing
