use Rattle.std.proofs.Common.{refl}
use Rattle.spj_syntax.proofs.Steps.{took_both, fails_first, fails_then, exit}
use Rattle.spj_syntax.proofs.lists.RawCondPiece.piece.Goals as goal

pub returns-in_err-left-clause-reads : goal.returns-in_err-left-clause-reads
returns-in_err-left-clause-reads c = exit _ _ c.from_residual.ensures.1 (fails_first c.in_err-left.ensures)

pub returns-in_err-right-clause-reads : goal.returns-in_err-right-clause-reads
returns-in_err-right-clause-reads c = exit _ _ c.from_residual-in_err-right.ensures.1 (fails_then c.in_ok-left.ensures c.in_err-right.ensures)

pub returns-in-Column-clause-reads : goal.returns-in-Column-clause-reads
returns-in-Column-clause-reads c = took_both c.in_ok-left.ensures (rw c.in-Column.is at c.in_ok-right.ensures) refl

pub returns-in-Literal-clause-reads : goal.returns-in-Literal-clause-reads
returns-in-Literal-clause-reads c = took_both c.in_ok-left.ensures (rw c.in-Literal.is at c.in_ok-right.ensures) refl
