use Rattle.proof_check.proofs.reply.log_line.Goals as goal

pub returns : goal.returns
returns c = rw c.cause_word-word.ensures at c.in_ok-format.ensures.ok
