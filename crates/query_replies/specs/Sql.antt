-- The text that `sql` tells of a query.
use Rattle.std.specs.Prelude.{◌≡◌, ℕ, List}
use Rattle.cqa_model.specs.declared.query.Query.{Query}
use Rattle.cqa_model.specs.Plan.{IsPlanOf}
use Rattle.sql_text.specs.declared.names.Names.{Names}
use Rattle.sql_text.specs.declared.syntax.Sql.{Sql}
use Rattle.sql_text.specs.Texts.{sql_bytes}
use Rattle.sql_text.specs.Named.{IsNamed}
use Rattle.plan_sql.specs.Laws.{IsExactSql, ShowsOnce}
use Rattle.plan_sql.specs.Statement.{sql_of}

-- what is promised of a query in SQL: it means exactly the query's certain rows, its names say what its places mean, and no two
-- choices of its last select show one row
pub record IsPromised (q : Query) (sql : Sql) : Type 0 where
  pub exact : IsExactSql q sql
  pub named : IsNamed q sql
  pub once : ShowsOnce q sql

-- the text of a plan of the query in SQL, with its promise
abbrev pub IsSqlOf : Query → Names → List ℕ → Type 0
IsSqlOf q names text = (plan : List ℕ) × IsPlanOf q plan × IsPromised q (sql_of q plan) × (text ≡ sql_bytes q names (sql_of q plan))
