use Rattle.plan_sql.proofs.Once
use Rattle.plan_sql.proofs.laws.choices_end_once.Goals as goal

pub returns : goal.returns
returns c = Once.choices_end_once
