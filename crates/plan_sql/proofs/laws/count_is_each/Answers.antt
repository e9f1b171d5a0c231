use Rattle.plan_sql.proofs.Counting
use Rattle.plan_sql.proofs.laws.count_is_each.Goals as goal

pub returns : goal.returns
returns c = Counting.count_is_each
