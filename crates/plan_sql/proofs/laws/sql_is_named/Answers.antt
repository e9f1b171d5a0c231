use Rattle.plan_sql.proofs.Named
use Rattle.plan_sql.proofs.laws.sql_is_named.Goals as goal

pub returns : goal.returns
returns c = Named.sql_is_named
