use Rattle.std.proofs.Common.{refl}
use Rattle.spj_syntax.proofs.Steps.{took_both, fails_first, fails_then, exit}
use Rattle.spj_syntax.proofs.ranges.from_several.Goals as goal

pub returns-in_err-word : goal.returns-in_err-word
returns-in_err-word c = exit _ _ c.from_residual.ensures.1 (fails_first c.in_err-word.ensures)

pub returns-in_err-first : goal.returns-in_err-first
returns-in_err-first c = exit _ _ c.from_residual-in_err-first.ensures.1 (fails_then c.in_ok-word.ensures (fails_first c.in_err-first.ensures.reads))

pub returns-in_err-behind : goal.returns-in_err-behind
returns-in_err-behind c = exit _ _ c.from_residual-in_err-behind.ensures.1 (fails_then c.in_ok-word.ensures (fails_then c.in_ok-first.ensures.reads c.in_err-behind.ensures))

pub returns : goal.returns
returns c = took_both c.in_ok-word.ensures (took_both c.in_ok-first.ensures.reads c.in_ok-behind.ensures refl) refl
