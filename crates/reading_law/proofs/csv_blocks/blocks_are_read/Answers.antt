use Rattle.reading_law.proofs.Records.{blocks_are_read}
use Rattle.reading_law.proofs.csv_blocks.blocks_are_read.Goals as goal

pub returns : goal.returns
returns c = blocks_are_read
