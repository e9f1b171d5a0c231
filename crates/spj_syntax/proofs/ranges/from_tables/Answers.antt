use Rattle.std.proofs.Common.{refl}
use Rattle.spj_syntax.proofs.Steps.{took_both, fails_first, fails_then, exit}
use Rattle.spj_syntax.proofs.ranges.from_tables.Goals as goal

pub returns-in_err-word : goal.returns-in_err-word
returns-in_err-word c = exit _ _ c.from_residual.ensures.1 (fails_first c.in_err-word.ensures)

pub returns-in_err-first : goal.returns-in_err-first
returns-in_err-first c = exit _ _ c.from_residual-in_err-first.ensures.1 (fails_then c.in_ok-word.ensures (fails_first c.in_err-first.ensures.reads))

pub returns-in_err-tail : goal.returns-in_err-tail
returns-in_err-tail c = exit _ _ c.from_residual-in_err-tail.ensures.1 (fails_then c.in_ok-word.ensures (fails_then c.in_ok-first.ensures.reads c.in_err-tail.ensures))

pub returns : goal.returns
returns c = took_both c.in_ok-word.ensures (took_both c.in_ok-first.ensures.reads c.in_ok-tail.ensures refl) refl
