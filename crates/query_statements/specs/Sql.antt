-- `sql`
use Rattle.std.specs.Prelude.{◌≡◌}
use Rattle.cqa_model.specs.declared.query.Query.{Query}
use Rattle.cqa_model.specs.Variables.{whole}
use Rattle.cqa_model.specs.Graph.{HasCycle}
use Rattle.spj_syntax.specs.declared.tree.Select.{Select}
use Rattle.query_resolve.specs.Resolved.{IsQueryOf}
use Rattle.sql_text.specs.declared.names.Names.{Names}
use Rattle.query_replies.specs.Names.{query_names}
use Rattle.query_replies.specs.Sql.{IsSqlOf}
use Rattle.reply_text.specs.declared.reply.Reply.{Reply}
use Rattle.reply_text.specs.declared.reply.Reply.TheVariants.{Sql, NoPlan}
use Rattle.session_state.specs.State.{State}

-- what is told of a query: the text of its plan in SQL, with its promise; or that there is none, since the attacks have a cycle
abbrev pub TellsSql : Query → Names → Reply → Type 0
TellsSql q names (Sql text) = IsSqlOf q names text
TellsSql q names NoPlan = HasCycle q (whole q)
TellsSql q names _ = ⊥

-- The reply has the query's plan in SQL, or says that there is none.
pub record WritesSql (state : State) (select : Select) (reply : Reply) (new : State) : Type 0 where
  pub query : Query
  pub resolved : IsQueryOf state.tables select query
  pub told : TellsSql query (query_names state.tables select.tables query) reply
  pub keeps : new ≡ state
