use Rattle.std.proofs.Common.{refl}
use Rattle.spj_syntax.proofs.Steps.{took_both, fails_first, fails_then, exit}
use Rattle.spj_syntax.proofs.forms.RawBlockForm.form.Goals as goal

pub returns-in_err-word-clause-reads : goal.returns-in_err-word-clause-reads
returns-in_err-word-clause-reads c = exit _ _ c.from_residual.ensures.1 (fails_first c.in_err-word.ensures)

pub returns-in_err-raw-clause-reads : goal.returns-in_err-raw-clause-reads
returns-in_err-raw-clause-reads c = exit _ _ c.from_residual-in_err-raw.ensures.1 (fails_then c.in_ok-word.ensures c.in_err-raw.ensures.reads)

pub returns-clause-reads : goal.returns-clause-reads
returns-clause-reads c = took_both c.in_ok-word.ensures c.in_ok-raw.ensures.reads refl
