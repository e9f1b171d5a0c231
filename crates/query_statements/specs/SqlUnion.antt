-- `sql` of a union
use Rattle.std.specs.Prelude.{◌≡◌, List, map}
use Rattle.cqa_model.specs.declared.query.Query.{Query}
use Rattle.cqa_model.specs.Database.{Table}
use Rattle.spj_syntax.specs.declared.tree.Select.{Select}
use Rattle.query_resolve.specs.Resolved.{AreQueriesOf}
use Rattle.query_strategy.specs.Apart.{AreApart}
use Rattle.query_replies.specs.Parts.{SqlPart, text_of, AreSqlPartsOf, IsExactUnion, TellsSqlOfParts}
use Rattle.reply_text.specs.declared.reply.Reply.{Reply}
use Rattle.reply_text.specs.declared.reply.Reply.TheVariants.{SqlParts}
use Rattle.session_state.specs.State.{State}

-- what is told of parts that are apart: their texts, whose union means exactly the rows that are certain for the parts together; or that a part
-- has no plan; or else that two parts share a table that isn't strict
abbrev pub TellsUnionSql : List Table → List Select → List Query → Reply → Type 0
TellsUnionSql db selects queries (SqlParts texts) = (parts : List SqlPart) × AreSqlPartsOf db selects queries parts × AreApart queries × IsExactUnion parts × (texts ≡ map text_of parts)
TellsUnionSql db selects queries reply = TellsSqlOfParts db selects queries reply

-- The reply has the plans of the parts in SQL, or says why there is no such query.
pub record WritesUnionSql (state : State) (selects : List Select) (reply : Reply) (new : State) : Type 0 where
  pub parts : List Query
  pub resolved : AreQueriesOf state.tables selects parts
  pub told : TellsUnionSql state.tables selects parts reply
  pub keeps : new ≡ state
