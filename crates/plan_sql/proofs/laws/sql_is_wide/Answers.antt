use Rattle.plan_sql.proofs.Exact
use Rattle.plan_sql.proofs.laws.sql_is_wide.Goals as goal

pub returns : goal.returns
returns c = Exact.sql_is_wide
