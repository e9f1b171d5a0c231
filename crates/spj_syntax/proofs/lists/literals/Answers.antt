use Rattle.spj_syntax.proofs.Steps.{exit}
use Rattle.spj_syntax.proofs.lists.literals.Goals as goal

pub returns-in_err-values-clause-reads : goal.returns-in_err-values-clause-reads
returns-in_err-values-clause-reads c = exit _ _ c.from_residual.ensures.1 c.in_err-values.ensures.reads

pub returns-clause-reads : goal.returns-clause-reads
returns-clause-reads c = rw c.from_items.ensures c.in_ok-values.ensures.reads
