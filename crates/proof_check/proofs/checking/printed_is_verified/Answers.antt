use Rattle.proof_check.proofs.Replies.{printed_is_verified}
use Rattle.proof_check.proofs.checking.printed_is_verified.Goals as goal

pub returns : goal.returns
returns c = printed_is_verified
