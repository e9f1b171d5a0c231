use Rattle.std.proofs.Common.{refl}
use Rattle.spj_syntax.proofs.Steps.{took_left, took_right, mark_took, fails_right, exit}
use Rattle.spj_syntax.proofs.parts.op_but_equal.Goals as goal

pub returns-then-sees_mark : goal.returns-then-sees_mark
returns-then-sees_mark c = took_left c.if-sees_mark.ensures (mark_took c.if-sees_mark.ensures c.advance.ensures)

pub returns-then-sees_mark-2 : goal.returns-then-sees_mark-2
returns-then-sees_mark-2 c = took_right refl c.if-sees_mark.ensures (took_left c.if-sees_mark-2.ensures (mark_took c.if-sees_mark-2.ensures c.advance-then-sees_mark-2.ensures))

pub returns-then-sees_mark-3 : goal.returns-then-sees_mark-3
returns-then-sees_mark-3 c = took_right refl c.if-sees_mark.ensures (took_right refl c.if-sees_mark-2.ensures (took_left c.if-sees_mark-3.ensures (mark_took c.if-sees_mark-3.ensures c.advance-then-sees_mark-3.ensures)))

pub returns-then-sees_mark-4 : goal.returns-then-sees_mark-4
returns-then-sees_mark-4 c = took_right refl c.if-sees_mark.ensures (took_right refl c.if-sees_mark-2.ensures (took_right refl c.if-sees_mark-3.ensures (took_left c.if-sees_mark-4.ensures (mark_took c.if-sees_mark-4.ensures c.advance-then-sees_mark-4.ensures))))

pub returns-in_err-mark : goal.returns-in_err-mark
returns-in_err-mark c = exit _ _ c.from_residual.ensures.1 (fails_right refl c.if-sees_mark.ensures (fails_right refl c.if-sees_mark-2.ensures (fails_right refl c.if-sees_mark-3.ensures (fails_right refl c.if-sees_mark-4.ensures c.in_err-mark.ensures))))

pub returns : goal.returns
returns c = took_right refl c.if-sees_mark.ensures (took_right refl c.if-sees_mark-2.ensures (took_right refl c.if-sees_mark-3.ensures (took_right refl c.if-sees_mark-4.ensures c.in_ok-mark.ensures)))
