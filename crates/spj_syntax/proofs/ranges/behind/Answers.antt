use Rattle.std.proofs.Common.{refl}
use Rattle.spj_syntax.proofs.Steps.{took_both, fails_first, fails_then, exit}
use Rattle.spj_syntax.proofs.ranges.behind.Goals as goal

pub returns-in_err-mark : goal.returns-in_err-mark
returns-in_err-mark c = exit _ _ c.from_residual.ensures.1 (fails_first c.in_err-mark.ensures)

pub returns-in_err-others : goal.returns-in_err-others
returns-in_err-others c = exit _ _ c.from_residual-in_err-others.ensures.1 (fails_then c.in_ok-mark.ensures (fails_first c.in_err-others.ensures.reads))

pub returns-in_err-conds : goal.returns-in_err-conds
returns-in_err-conds c = exit _ _ c.from_residual-in_err-conds.ensures.1 (fails_then c.in_ok-mark.ensures (fails_then c.in_ok-others.ensures.reads (fails_first c.in_err-conds.ensures.reads)))

pub returns-in_err-group : goal.returns-in_err-group
returns-in_err-group c = exit _ _ c.from_residual-in_err-group.ensures.1 (fails_then c.in_ok-mark.ensures (fails_then c.in_ok-others.ensures.reads (fails_then c.in_ok-conds.ensures.reads c.in_err-group.ensures)))

pub returns : goal.returns
returns c = took_both c.in_ok-mark.ensures (took_both c.in_ok-others.ensures.reads (took_both c.in_ok-conds.ensures.reads c.in_ok-group.ensures refl) refl) refl
