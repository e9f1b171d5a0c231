use Rattle.std.proofs.Common.{refl}
use Rattle.spj_syntax.proofs.Steps.{took_left, took_right, opens_then, fails_left, fails_right, exit}
use Rattle.spj_syntax.proofs.ranges.tail.Goals as goal

pub returns-in_err-several : goal.returns-in_err-several
returns-in_err-several c = exit _ _ c.from_residual.ensures.1 (fails_left (opens_then refl c.if-sees_mark.ensures) c.in_err-several.ensures)

pub returns-then-sees_mark : goal.returns-then-sees_mark
returns-then-sees_mark c = took_left (opens_then refl c.if-sees_mark.ensures) c.in_ok-several.ensures

pub returns-in_err-alone : goal.returns-in_err-alone
returns-in_err-alone c = exit _ _ c.from_residual-in_err-alone.ensures.1 (fails_right refl (opens_then refl c.if-sees_mark.ensures) c.in_err-alone.ensures)

pub returns : goal.returns
returns c = took_right refl (opens_then refl c.if-sees_mark.ensures) c.in_ok-alone.ensures
