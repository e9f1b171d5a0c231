use Rattle.std.proofs.Common.{refl}
use Rattle.spj_syntax.proofs.Steps.{took_both, fails_first, fails_then, exit}
use Rattle.spj_syntax.proofs.queries.row_for.Goals as goal

pub returns-in_err-word : goal.returns-in_err-word
returns-in_err-word c = exit _ _ c.from_residual.ensures.1 (fails_first c.in_err-word.ensures)

pub returns-in_err-row : goal.returns-in_err-row
returns-in_err-row c = exit _ _ c.from_residual-in_err-row.ensures.1 (fails_then c.in_ok-word.ensures (fails_first c.in_err-row.ensures))

pub returns-in_err-word-2 : goal.returns-in_err-word-2
returns-in_err-word-2 c = exit _ _ c.from_residual-in_err-word-2.ensures.1 (fails_then c.in_ok-word.ensures (fails_then c.in_ok-row.ensures c.in_err-word-2.ensures))

pub returns : goal.returns
returns c = took_both c.in_ok-word.ensures (took_both c.in_ok-row.ensures c.in_ok-word-2.ensures refl) refl
