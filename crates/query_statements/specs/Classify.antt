-- `classify`
use Rattle.std.specs.Prelude.{◌≡◌}
use Rattle.cqa_model.specs.declared.query.Query.{Query}
use Rattle.spj_syntax.specs.declared.tree.Select.{Select}
use Rattle.query_resolve.specs.Resolved.{IsQueryOf}
use Rattle.query_replies.specs.Classes.{IsClassWith}
use Rattle.reply_text.specs.declared.reply.PartClass.{PartClass}
use Rattle.reply_text.specs.declared.reply.Reply.{Reply}
use Rattle.reply_text.specs.declared.reply.Reply.TheVariants.{Classified}
use Rattle.session_state.specs.State.{State}

-- The reply is the class of the whole query, with a line for each attack.
pub record Classifies (state : State) (select : Select) (reply : Reply) (new : State) : Type 0 where
  pub query : Query
  pub resolved : IsQueryOf state.tables select query
  pub found : PartClass
  pub told : IsClassWith query select.tables found
  pub replies : reply ≡ Classified found.class found.lines
  pub keeps : new ≡ state
