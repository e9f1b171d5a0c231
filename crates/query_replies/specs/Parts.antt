-- What `sql` tells of the parts of a union.
use Rattle.std.specs.Prelude.{◌≡◌, ℕ, ◌+◌, ◌<◌, ◌↔◌, List, map, Contains}
use Rattle.std.specs.List.{AllZip}
use Rattle.cqa_value.specs.declared.value.Value.{Value}
use Rattle.cqa_model.specs.declared.query.Query.{Query}
use Rattle.cqa_model.specs.Database.{Table, stored}
use Rattle.cqa_model.specs.Query.{rows_of, FitsDatabase}
use Rattle.cqa_model.specs.Variables.{whole}
use Rattle.cqa_model.specs.Graph.{HasCycle}
use Rattle.cqa_model.specs.Plan.{IsPlanOf}
use Rattle.cqa_model.specs.Unions.{IsCertainIn}
use Rattle.spj_syntax.specs.declared.tree.Select.{Select}
use Rattle.query_resolve.specs.Resolved.{IsQueryOf}
use Rattle.sql_text.specs.declared.names.Names.{Names}
use Rattle.sql_text.specs.declared.syntax.Sql.{Sql}
use Rattle.sql_text.specs.Meaning.{Means}
use Rattle.sql_text.specs.Texts.{sql_bytes}
use Rattle.plan_sql.specs.Statement.{sql_of}
use Rattle.query_strategy.specs.declared.shared.Shared.{Shared}
use Rattle.query_strategy.specs.Apart.{AreApart, IsFirstShared, IsPartAt}
use Rattle.reply_text.specs.declared.reply.Reply.{Reply}
use Rattle.reply_text.specs.declared.reply.Reply.TheVariants.{SqlParts, NoPlanOf, Shares}
use Rattle.query_replies.specs.Names.{table_name_at, query_names}
use Rattle.query_replies.specs.Sql.{IsPromised}

-- a part of a union: its query, the names of its tables and of their columns, and its query in SQL
pub record SqlPart : Type 0 where
  pub query : Query
  pub names : Names
  pub sql : Sql

abbrev pub queries_of : List SqlPart → List Query
queries_of parts = map (λ (part : SqlPart). part.query) parts

-- the text of a part
abbrev pub text_of : SqlPart → List ℕ
text_of part = sql_bytes part.query part.names part.sql

-- the query that is written, with the query in SQL of a plan of it, and its promise
pub record IsSqlPartOf (db : List Table) (select : Select) (part : SqlPart) : Type 0 where
  pub resolved : IsQueryOf db select part.query
  pub names : part.names ≡ query_names db select.tables part.query
  pub planned : (plan : List ℕ) × IsPlanOf part.query plan × (part.sql ≡ sql_of part.query plan)
  pub promised : IsPromised part.query part.sql

-- its text, for a query
abbrev pub HasText : List Table → Select → Query → List ℕ → Type 0
HasText db select q text = (part : SqlPart) × IsSqlPartOf db select part × (part.query ≡ q) × (text ≡ text_of part)

-- one for each part of a union
pub record AreSqlPartsOf (db : List Table) (selects : List Select) (queries : List Query) (parts : List SqlPart) : Type 0 where
  pub each : AllZip (IsSqlPartOf db) selects parts
  pub same : queries_of parts ≡ queries

-- and their texts
abbrev pub HaveTexts : List Table → List Select → List Query → List (List ℕ) → Type 0
HaveTexts db selects queries texts = (parts : List SqlPart) × AreSqlPartsOf db selects queries parts × (texts ≡ map text_of parts)

-- some part's query in SQL has the row
abbrev pub UnionMeans : List Table → List SqlPart → List Value → Type 0
UnionMeans db parts row = (part : SqlPart) × Contains parts part × Means (rows_of part.query (stored db)) part.sql row

-- over each database that the parts fit, of any size, what their union means is exactly the rows that are certain for it
abbrev pub IsExactUnion : List SqlPart → Type 0
IsExactUnion parts =
    (db : List Table) (row : List Value) → ((q : Query) → Contains (queries_of parts) q → FitsDatabase q db) → UnionMeans db parts row ↔ IsCertainIn db (queries_of parts) row

-- the attacks of the whole query have a cycle, so that it has no plan
abbrev pub HasCyclicAttacks : Query → Type 0
HasCyclicAttacks q = HasCycle q (whole q)

-- the query has a plan
abbrev pub HasPlan : Query → Type 0
HasPlan q = (plan : List ℕ) × IsPlanOf q plan

-- of the parts the first that has no plan, by its number from 1
pub record IsFirstUnplanned (parts : List Query) (number : ℕ) : Type 0 where
  pub part : Query
  pub place : ℕ
  pub at : IsPartAt parts place part
  pub counted : number ≡ place + 1
  pub cyclic : HasCyclicAttacks part
  pub before : (k : ℕ) (q : Query) → k < place → IsPartAt parts k q → HasPlan q

-- two parts, by their numbers from 1, and the first table that isn't strict and stands in two
abbrev pub TellsShared : List Table → List Query → Reply → Type 0
TellsShared db parts (Shares first second table) = (s : Shared) × IsFirstShared parts s × (first ≡ s.first + 1) × (second ≡ s.second + 1) × (table ≡ table_name_at db s.table)
TellsShared db parts _ = ⊥

-- the texts of the parts, which are apart; or the first part without a plan; or else a table that two parts share
abbrev pub TellsSqlOfParts : List Table → List Select → List Query → Reply → Type 0
TellsSqlOfParts db selects parts (SqlParts texts) = HaveTexts db selects parts texts × AreApart parts
TellsSqlOfParts db selects parts (NoPlanOf number) = IsFirstUnplanned parts number
TellsSqlOfParts db selects parts (Shares first second table) = ((q : Query) → Contains parts q → HasPlan q) × TellsShared db parts (Shares first second table)
TellsSqlOfParts db selects parts _ = ⊥
