use Rattle.input_check.proofs.Replies.{one_input_reply}
use Rattle.input_check.proofs.checking.input_has_one_reply.Goals as goal

pub returns : goal.returns
returns c = one_input_reply
