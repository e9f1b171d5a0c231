use Rattle.plan_sql.proofs.Spreading
use Rattle.plan_sql.proofs.laws.sql_is_spread.Goals as goal

pub returns : goal.returns
returns c = Spreading.sql_is_spread
