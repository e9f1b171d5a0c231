use Rattle.spj_syntax.proofs.Steps.{exit}
use Rattle.spj_syntax.proofs.queries.united.Goals as goal

pub returns-in_err-read : goal.returns-in_err-read
returns-in_err-read c = exit _ _ c.from_residual.ensures.1 c.in_err-read.ensures.reads

pub returns : goal.returns
returns c = rw c.one_or_union.ensures c.in_ok-read.ensures.reads
