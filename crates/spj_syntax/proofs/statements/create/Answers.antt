use Rattle.std.proofs.Common.{refl}
use Rattle.spj_syntax.proofs.Steps.{took_both, fails_first, fails_then, exit, created}
use Rattle.spj_syntax.proofs.statements.create.Goals as goal

pub returns-in_err-word-clause-reads : goal.returns-in_err-word-clause-reads
returns-in_err-word-clause-reads c = exit _ _ c.from_residual.ensures.1 (fails_first c.in_err-word.ensures)

pub returns-in_err-word-2-clause-reads : goal.returns-in_err-word-2-clause-reads
returns-in_err-word-2-clause-reads c = exit _ _ c.from_residual-in_err-word-2.ensures.1 (fails_then c.in_ok-word.ensures (fails_then c.is_strict-strict.ensures (fails_first c.in_err-word-2.ensures)))

pub returns-in_err-name-clause-reads : goal.returns-in_err-name-clause-reads
returns-in_err-name-clause-reads c = exit _ _ c.from_residual-in_err-name.ensures.1 (fails_then c.in_ok-word.ensures (fails_then c.is_strict-strict.ensures (fails_then c.in_ok-word-2.ensures (fails_first c.in_err-name.ensures.reads))))

pub returns-in_err-parts-clause-reads : goal.returns-in_err-parts-clause-reads
returns-in_err-parts-clause-reads c = exit _ _ c.from_residual-in_err-parts.ensures.1 (fails_then c.in_ok-word.ensures (fails_then c.is_strict-strict.ensures (fails_then c.in_ok-word-2.ensures (fails_then c.in_ok-name.ensures.reads c.in_err-parts.ensures.reads))))

pub returns-clause-reads : goal.returns-clause-reads
returns-clause-reads c = created _ _ _ _ c.in_ok-parts.ensures.some.0 c.in_ok-parts.ensures.some.1 (record { of_table = c.in_ok-name.ensures.named; of_columns = c.in_ok-parts.ensures.named.0; of_key = c.in_ok-parts.ensures.named.1 }) (took_both c.in_ok-word.ensures (took_both c.is_strict-strict.ensures (took_both c.in_ok-word-2.ensures (took_both c.in_ok-name.ensures.reads c.in_ok-parts.ensures.reads refl) refl) refl) refl)
