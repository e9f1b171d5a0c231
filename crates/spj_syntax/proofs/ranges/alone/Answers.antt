use Rattle.std.proofs.Common.{refl}
use Rattle.spj_syntax.proofs.Steps.{took_both, fails_first, fails_then, exit}
use Rattle.spj_syntax.proofs.ranges.alone.Goals as goal

pub returns-in_err-tests : goal.returns-in_err-tests
returns-in_err-tests c = exit _ _ c.from_residual.ensures.1 (fails_first c.in_err-tests.ensures.reads)

pub returns-in_err-group : goal.returns-in_err-group
returns-in_err-group c = exit _ _ c.from_residual-in_err-group.ensures.1 (fails_then c.in_ok-tests.ensures.reads c.in_err-group.ensures)

pub returns : goal.returns
returns c = took_both c.in_ok-tests.ensures.reads c.in_ok-group.ensures refl
