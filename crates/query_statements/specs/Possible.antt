-- `possible`
use Rattle.std.specs.Prelude.{◌≡◌, List}
use Rattle.cqa_value.specs.declared.value.Value.{Value}
use Rattle.cqa_model.specs.declared.query.Query.{Query}
use Rattle.cqa_model.specs.Certain.{IsPossibleAnswer}
use Rattle.spj_syntax.specs.declared.tree.Select.{Select}
use Rattle.query_resolve.specs.Resolved.{IsQueryOf}
use Rattle.reply_text.specs.declared.reply.Reply.{Reply}
use Rattle.reply_text.specs.declared.reply.Reply.TheVariants.{Rows}
use Rattle.session_state.specs.State.{State}

-- The reply is the possible answer of the query.
pub record AnswersPossible (state : State) (select : Select) (reply : Reply) (new : State) : Type 0 where
  pub query : Query
  pub resolved : IsQueryOf state.tables select query
  pub rows : List (List Value)
  pub possible : IsPossibleAnswer state.tables query rows
  pub replies : reply ≡ Rows rows
  pub keeps : new ≡ state
