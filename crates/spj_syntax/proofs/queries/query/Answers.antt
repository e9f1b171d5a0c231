use Rattle.std.proofs.Common.{refl}
use Rattle.spj_syntax.proofs.Steps.{took_both, fails_first, fails_then, exit}
use Rattle.spj_syntax.proofs.queries.query.Goals as goal

pub returns-in_err-columns : goal.returns-in_err-columns
returns-in_err-columns c = exit _ _ c.from_residual.ensures.1 (fails_first c.in_err-columns.ensures)

pub returns-in_err-word : goal.returns-in_err-word
returns-in_err-word c = exit _ _ c.from_residual-in_err-word.ensures.1 (fails_then c.in_ok-columns.ensures (fails_first c.in_err-word.ensures))

pub returns-in_err-tables : goal.returns-in_err-tables
returns-in_err-tables c = exit _ _ c.from_residual-in_err-tables.ensures.1 (fails_then c.in_ok-columns.ensures (fails_then c.in_ok-word.ensures (fails_first c.in_err-tables.ensures.reads)))

pub returns-in_err-conds : goal.returns-in_err-conds
returns-in_err-conds c = exit _ _ c.from_residual-in_err-conds.ensures.1 (fails_then c.in_ok-columns.ensures (fails_then c.in_ok-word.ensures (fails_then c.in_ok-tables.ensures.reads c.in_err-conds.ensures.reads)))

pub returns : goal.returns
returns c = took_both c.in_ok-columns.ensures (took_both c.in_ok-word.ensures (took_both c.in_ok-tables.ensures.reads c.in_ok-conds.ensures.reads refl) refl) refl
