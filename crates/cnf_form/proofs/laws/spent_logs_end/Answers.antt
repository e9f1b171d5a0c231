use Rattle.cnf_form.proofs.Law.{spent_logs_end}
use Rattle.cnf_form.proofs.laws.spent_logs_end.Goals as goal

pub returns : goal.returns
returns c = spent_logs_end
