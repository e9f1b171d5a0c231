use Rattle.input_check.proofs.reply.block_line.Goals as goal

pub returns : goal.returns
returns c = rw c.block_word-word.ensures at c.in_ok-format.ensures.ok
