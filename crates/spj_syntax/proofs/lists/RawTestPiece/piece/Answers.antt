use Rattle.std.proofs.Common.{refl}
use Rattle.spj_syntax.proofs.Steps.{took_both, fails_first, fails_then, exit}
use Rattle.spj_syntax.proofs.lists.RawTestPiece.piece.Goals as goal

pub returns-in_err-col-clause-reads : goal.returns-in_err-col-clause-reads
returns-in_err-col-clause-reads c = exit _ _ c.from_residual.ensures.1 (fails_first c.in_err-col.ensures.reads)

pub returns-in_err-op-clause-reads : goal.returns-in_err-op-clause-reads
returns-in_err-op-clause-reads c = exit _ _ c.from_residual-in_err-op.ensures.1 (fails_then c.in_ok-col.ensures.reads (fails_first c.in_err-op.ensures))

pub returns-in_err-value-clause-reads : goal.returns-in_err-value-clause-reads
returns-in_err-value-clause-reads c = exit _ _ c.from_residual-in_err-value.ensures.1 (fails_then c.in_ok-col.ensures.reads (fails_then c.in_ok-op.ensures c.in_err-value.ensures))

pub returns-clause-reads : goal.returns-clause-reads
returns-clause-reads c = took_both c.in_ok-col.ensures.reads (took_both c.in_ok-op.ensures c.in_ok-value.ensures refl) refl
