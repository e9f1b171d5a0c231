use Rattle.std.proofs.Common.{refl}
use Rattle.spj_syntax.proofs.Steps.{took_both, fails_first, fails_then, exit}
use Rattle.spj_syntax.proofs.lists.column_before_comma.Goals as goal

pub returns-in_err-column-clause-reads : goal.returns-in_err-column-clause-reads
returns-in_err-column-clause-reads c = exit _ _ c.from_residual.ensures.1 (fails_first c.in_err-column.ensures.reads)

pub returns-in_err-mark-clause-reads : goal.returns-in_err-mark-clause-reads
returns-in_err-mark-clause-reads c = exit _ _ c.from_residual-in_err-mark.ensures.1 (fails_then c.in_ok-column.ensures.reads c.in_err-mark.ensures)

pub returns-clause-reads : goal.returns-clause-reads
returns-clause-reads c = took_both c.in_ok-column.ensures.reads c.in_ok-mark.ensures refl
