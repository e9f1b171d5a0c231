use Rattle.std.proofs.Common.{refl}
use Rattle.spj_syntax.proofs.Steps.{took_both, fails_first, fails_then, exit}
use Rattle.spj_syntax.proofs.forms.table_rows.Goals as goal

pub returns-in_err-table-clause-reads : goal.returns-in_err-table-clause-reads
returns-in_err-table-clause-reads c = exit _ _ c.from_residual.ensures.1 (fails_first c.in_err-table.ensures.reads)

pub returns-in_err-word-clause-reads : goal.returns-in_err-word-clause-reads
returns-in_err-word-clause-reads c = exit _ _ c.from_residual-in_err-word.ensures.1 (fails_then c.in_ok-table.ensures.reads (fails_first c.in_err-word.ensures))

pub returns-in_err-rows-clause-reads : goal.returns-in_err-rows-clause-reads
returns-in_err-rows-clause-reads c = exit _ _ c.from_residual-in_err-rows.ensures.1 (fails_then c.in_ok-table.ensures.reads (fails_then c.in_ok-word.ensures c.in_err-rows.ensures.reads))

pub returns-clause-reads : goal.returns-clause-reads
returns-clause-reads c = took_both c.in_ok-table.ensures.reads (took_both c.in_ok-word.ensures c.in_ok-rows.ensures.reads refl) refl
