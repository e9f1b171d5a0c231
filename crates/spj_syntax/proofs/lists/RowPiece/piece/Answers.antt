use Rattle.std.proofs.Common.{refl}
use Rattle.spj_syntax.proofs.Steps.{took_both, fails_first, fails_then, exit}
use Rattle.spj_syntax.proofs.lists.RowPiece.piece.Goals as goal

pub returns-in_err-mark-clause-reads : goal.returns-in_err-mark-clause-reads
returns-in_err-mark-clause-reads c = exit _ _ c.from_residual.ensures.1 (fails_first c.in_err-mark.ensures)

pub returns-in_err-values-clause-reads : goal.returns-in_err-values-clause-reads
returns-in_err-values-clause-reads c = exit _ _ c.from_residual-in_err-values.ensures.1 (fails_then c.in_ok-mark.ensures (fails_first c.in_err-values.ensures.reads))

pub returns-in_err-mark-2-clause-reads : goal.returns-in_err-mark-2-clause-reads
returns-in_err-mark-2-clause-reads c = exit _ _ c.from_residual-in_err-mark-2.ensures.1 (fails_then c.in_ok-mark.ensures (fails_then c.in_ok-values.ensures.reads c.in_err-mark-2.ensures))

pub returns-clause-reads : goal.returns-clause-reads
returns-clause-reads c = took_both c.in_ok-mark.ensures (took_both c.in_ok-values.ensures.reads c.in_ok-mark-2.ensures refl) refl
