use Rattle.std.proofs.Common.{refl}
use Rattle.spj_syntax.proofs.Steps.{took_both, fails_first, fails_then, exit}
use Rattle.spj_syntax.proofs.parts.column.Goals as goal

pub returns-in_err-name-clause-reads : goal.returns-in_err-name-clause-reads
returns-in_err-name-clause-reads c = exit _ _ c.from_residual.ensures.1 (fails_first c.in_err-name.ensures.reads)

pub returns-in_err-kind-clause-reads : goal.returns-in_err-kind-clause-reads
returns-in_err-kind-clause-reads c = exit _ _ c.from_residual-in_err-kind.ensures.1 (fails_then c.in_ok-name.ensures.reads c.in_err-kind.ensures)

pub returns-clause-reads : goal.returns-clause-reads
returns-clause-reads c = took_both c.in_ok-name.ensures.reads c.in_ok-kind.ensures refl
