use Rattle.std.proofs.Common.{refl}
use Rattle.spj_syntax.proofs.Steps.{took_both, took_left, took_right, took_nothing, mark_took, opens_then, fails_first, fails_then, fails_left, exit}
use Rattle.spj_syntax.proofs.parts.col.Goals as goal

pub returns-in_err-name : goal.returns-in_err-name
returns-in_err-name c = exit _ _ c.from_residual.ensures.1 (fails_first c.in_err-name.ensures.reads)

pub returns-in_err-second : goal.returns-in_err-second
returns-in_err-second c =
    exit _ _ c.from_residual-in_err-second.ensures.1 (fails_then c.in_ok-name.ensures.reads
    (fails_left (opens_then refl c.if-sees_mark.ensures) (fails_then (mark_took c.if-sees_mark.ensures c.advance.ensures) c.in_err-second.ensures.reads)))

pub returns-then-sees_mark : goal.returns-then-sees_mark
returns-then-sees_mark c =
    took_both c.in_ok-name.ensures.reads (took_left (opens_then refl c.if-sees_mark.ensures) (took_both (mark_took c.if-sees_mark.ensures c.advance.ensures) c.in_ok-second.ensures.reads refl)) refl

pub returns : goal.returns
returns c = took_both c.in_ok-name.ensures.reads (took_right refl (opens_then refl c.if-sees_mark.ensures) took_nothing) refl
