-- `possible` of a union
use Rattle.std.specs.Prelude.{◌≡◌, List}
use Rattle.cqa_value.specs.declared.value.Value.{Value}
use Rattle.cqa_model.specs.declared.query.Query.{Query}
use Rattle.spj_syntax.specs.declared.tree.Select.{Select}
use Rattle.query_resolve.specs.Resolved.{AreQueriesOf}
use Rattle.union_ask.specs.Candidates.{IsPossibleUnionAnswer}
use Rattle.reply_text.specs.declared.reply.Reply.{Reply}
use Rattle.reply_text.specs.declared.reply.Reply.TheVariants.{Rows}
use Rattle.session_state.specs.State.{State}

-- The reply is the possible answer of the union.
pub record AnswersPossibleUnion (state : State) (selects : List Select) (reply : Reply) (new : State) : Type 0 where
  pub parts : List Query
  pub resolved : AreQueriesOf state.tables selects parts
  pub rows : List (List Value)
  pub possible : IsPossibleUnionAnswer state.tables parts rows
  pub replies : reply ≡ Rows rows
  pub keeps : new ≡ state
