-- `disputed`
use Rattle.spj_syntax.specs.declared.tree.Select.{Select}
use Rattle.row_answers.specs.declared.side.Side.TheVariants.{Disputed}
use Rattle.reply_text.specs.declared.reply.Reply.{Reply}
use Rattle.session_state.specs.State.{State}
use Rattle.query_statements.specs.Sides.{AnswersSide}

-- The reply is the disputed rows of the query, those that are possible and not certain, or says where a search stopped.
abbrev pub AnswersDisputed : State → Select → Reply → State → Type 0
AnswersDisputed old select reply new = AnswersSide old select Disputed reply new
