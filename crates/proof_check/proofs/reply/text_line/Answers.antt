use Rattle.proof_check.proofs.reply.text_line.Goals as goal

pub returns : goal.returns
returns c = rw c.part_word-word.ensures at c.in_ok-format.ensures.ok
