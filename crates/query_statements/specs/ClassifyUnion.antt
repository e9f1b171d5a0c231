-- `classify` of a union
use Rattle.std.specs.Prelude.{◌≡◌, List}
use Rattle.cqa_model.specs.declared.query.Query.{Query}
use Rattle.spj_syntax.specs.declared.tree.Select.{Select}
use Rattle.query_resolve.specs.Resolved.{AreQueriesOf}
use Rattle.query_replies.specs.Classes.{TellsClasses}
use Rattle.reply_text.specs.declared.reply.Reply.{Reply}
use Rattle.session_state.specs.State.{State}

-- The reply is the class of each part with a line for each attack, and whether the parts are apart. No class is told of the union.
pub record ClassifiesUnion (state : State) (selects : List Select) (reply : Reply) (new : State) : Type 0 where
  pub parts : List Query
  pub resolved : AreQueriesOf state.tables selects parts
  pub told : TellsClasses state.tables selects parts reply
  pub keeps : new ≡ state
