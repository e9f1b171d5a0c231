use Rattle.spj_syntax.proofs.Once.{block_once}
use Rattle.reading_law.proofs.texts.text_is_one_block.Goals as goal

pub returns : goal.returns
returns c = block_once
