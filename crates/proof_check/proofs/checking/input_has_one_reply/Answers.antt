use Rattle.proof_check.proofs.Replies.{one_reply}
use Rattle.proof_check.proofs.checking.input_has_one_reply.Goals as goal

pub returns : goal.returns
returns c = one_reply
