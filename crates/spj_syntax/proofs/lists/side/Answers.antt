use Rattle.std.proofs.Common.{refl}
use Rattle.spj_syntax.proofs.Steps.{took_both, took_left, took_right, mark_took, opens_then, fails_first, fails_then, fails_left, fails_right, exit}
use Rattle.spj_syntax.proofs.lists.side.Goals as goal

pub returns-in_err-right : goal.returns-in_err-right
returns-in_err-right c = exit _ _ c.from_residual.ensures.1 (fails_left (opens_then refl c.if-sees_mark.ensures) (fails_then (mark_took c.if-sees_mark.ensures c.advance.ensures) (fails_left (opens_then refl c.if-sees_name.ensures) c.in_err-right.ensures)))

pub returns-then-sees_name : goal.returns-then-sees_name
returns-then-sees_name c = took_left (opens_then refl c.if-sees_mark.ensures) (took_both (mark_took c.if-sees_mark.ensures c.advance.ensures) (took_left (opens_then refl c.if-sees_name.ensures) c.in_ok-right.ensures) refl)

pub returns-in_err-same : goal.returns-in_err-same
returns-in_err-same c = exit _ _ c.from_residual-in_err-same.ensures.1 (fails_left (opens_then refl c.if-sees_mark.ensures) (fails_then (mark_took c.if-sees_mark.ensures c.advance.ensures) (fails_right refl (opens_then refl c.if-sees_name.ensures) c.in_err-same.ensures)))

pub returns-then-sees_mark : goal.returns-then-sees_mark
returns-then-sees_mark c = took_left (opens_then refl c.if-sees_mark.ensures) (took_both (mark_took c.if-sees_mark.ensures c.advance.ensures) (took_right refl (opens_then refl c.if-sees_name.ensures) c.in_ok-same.ensures) refl)

pub returns-in_err-op : goal.returns-in_err-op
returns-in_err-op c = exit _ _ c.from_residual-in_err-op.ensures.1 (fails_right refl (opens_then refl c.if-sees_mark.ensures) (fails_first c.in_err-op.ensures))

pub returns-in_err-value : goal.returns-in_err-value
returns-in_err-value c = exit _ _ c.from_residual-in_err-value.ensures.1 (fails_right refl (opens_then refl c.if-sees_mark.ensures) (fails_then c.in_ok-op.ensures c.in_err-value.ensures))

pub returns : goal.returns
returns c = took_right refl (opens_then refl c.if-sees_mark.ensures) (took_both c.in_ok-op.ensures c.in_ok-value.ensures refl)
