use Rattle.std.proofs.Common.{refl}
use Rattle.spj_syntax.proofs.Steps.{took_both, took_before, took_right, took_left, word_took, mark_took, opens_then, fails_first, fails_then, fails_left, fails_right, exit}
use Rattle.spj_syntax.proofs.ranges.ranged.Goals as goal

pub returns-in_err-counted : goal.returns-in_err-counted
returns-in_err-counted c = exit _ _ c.from_residual.ensures.1 (fails_left (opens_then refl c.if-sees_word.ensures) (fails_then (word_took c.if-sees_word.ensures c.advance.ensures) c.in_err-counted.ensures))

pub returns-then-sees_word : goal.returns-then-sees_word
returns-then-sees_word c = took_left (opens_then refl c.if-sees_word.ensures) (took_both (word_took c.if-sees_word.ensures c.advance.ensures) c.in_ok-counted.ensures refl)

pub returns-in_err-aggregate : goal.returns-in_err-aggregate
returns-in_err-aggregate c = exit _ _ c.from_residual-in_err-aggregate.ensures.1 (fails_right refl (opens_then refl c.if-sees_word.ensures) (fails_first c.in_err-aggregate.ensures))

pub returns-in_err-name : goal.returns-in_err-name
returns-in_err-name c = exit _ _ c.from_residual-in_err-name.ensures.1 (fails_right refl (opens_then refl c.if-sees_word.ensures) (fails_then c.in_ok-aggregate.ensures (fails_first c.in_err-name.ensures.reads)))

pub returns-in_err-column : goal.returns-in_err-column
returns-in_err-column c = exit _ _ c.from_residual-in_err-column.ensures.1 (fails_right refl (opens_then refl c.if-sees_word.ensures) (fails_then c.in_ok-aggregate.ensures (fails_then c.in_ok-name.ensures.reads (fails_left (opens_then refl (opens_then refl c.if-sees_mark.ensures)) (fails_first (fails_then (mark_took c.if-sees_mark.ensures c.advance-then-sees_mark.ensures) c.in_err-column.ensures.reads))))))

pub returns-in_err-several : goal.returns-in_err-several
returns-in_err-several c = exit _ _ c.from_residual-in_err-several.ensures.1 (fails_right refl (opens_then refl c.if-sees_word.ensures) (fails_then c.in_ok-aggregate.ensures (fails_then c.in_ok-name.ensures.reads (fails_left (opens_then refl (opens_then refl c.if-sees_mark.ensures)) (fails_then (took_both (mark_took c.if-sees_mark.ensures c.advance-then-sees_mark.ensures) c.in_ok-column.ensures.reads refl) c.in_err-several.ensures)))))

pub returns-in_err-tables : goal.returns-in_err-tables
returns-in_err-tables c = exit _ _ c.from_residual-in_err-tables.ensures.1 (fails_right refl (opens_then refl c.if-sees_word.ensures) (fails_then c.in_ok-aggregate.ensures (fails_then c.in_ok-name.ensures.reads (fails_right refl (opens_then refl (opens_then refl c.if-sees_mark.ensures)) c.in_err-tables.ensures))))

pub returns-then-sees_mark : goal.returns-then-sees_mark
returns-then-sees_mark c =
    took_right refl (opens_then refl c.if-sees_word.ensures) (took_before _ _ c.join_goal_of.ensures c.in_ok-aggregate.ensures (took_both c.in_ok-name.ensures.reads
    (took_left (opens_then refl (opens_then refl c.if-sees_mark.ensures)) (took_both (took_both (mark_took c.if-sees_mark.ensures c.advance-then-sees_mark.ensures) c.in_ok-column.ensures.reads refl) c.in_ok-several.ensures refl)) refl))

pub returns : goal.returns
returns c = took_right refl (opens_then refl c.if-sees_word.ensures) (took_before _ _ c.goal_of.ensures c.in_ok-aggregate.ensures (took_both c.in_ok-name.ensures.reads (took_right refl (opens_then refl (opens_then refl c.if-sees_mark.ensures)) c.in_ok-tables.ensures) refl))
