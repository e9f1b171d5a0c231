use Rattle.spj_syntax.proofs.Steps.{took_both, fails_first, fails_then, exit}
use Rattle.spj_syntax.proofs.queries.several.Goals as goal

pub returns-in_err-verb-clause-reads : goal.returns-in_err-verb-clause-reads
returns-in_err-verb-clause-reads c = exit _ _ c.from_residual.ensures.1 (fails_first c.in_err-verb.ensures)

pub returns-in_err-selected-clause-reads : goal.returns-in_err-selected-clause-reads
returns-in_err-selected-clause-reads c = exit _ _ c.from_residual-in_err-selected.ensures.1 (fails_then c.in_ok-verb.ensures c.in_err-selected.ensures)

pub returns-clause-reads : goal.returns-clause-reads
returns-clause-reads c = took_both c.in_ok-verb.ensures c.in_ok-selected.ensures c.of_selected.ensures.tokens
