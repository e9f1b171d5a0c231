use Rattle.plan_sql.proofs.Exact
use Rattle.plan_sql.proofs.laws.sql_shows_once.Goals as goal

pub returns : goal.returns
returns c = Exact.sql_shows_once
