use Rattle.plan_sql.proofs.Exact
use Rattle.plan_sql.proofs.laws.sql_is_exact.Goals as goal

pub returns : goal.returns
returns c = Exact.sql_is_exact
