-- `ask`
use Rattle.spj_syntax.specs.declared.tree.Select.{Select}
use Rattle.row_answers.specs.declared.side.Side.TheVariants.{Certain}
use Rattle.reply_text.specs.declared.reply.Reply.{Reply}
use Rattle.session_state.specs.State.{State}
use Rattle.query_statements.specs.Sides.{AnswersSide}

-- The reply is the certain answer of the query, or says where a search stopped.
abbrev pub AnswersCertain : State → Select → Reply → State → Type 0
AnswersCertain old select reply new = AnswersSide old select Certain reply new
