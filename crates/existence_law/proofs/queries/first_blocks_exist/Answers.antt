use Rattle.existence_law.proofs.Blocking.{first_blocks_exist}
use Rattle.existence_law.proofs.queries.first_blocks_exist.Goals as goal

pub returns : goal.returns
returns c = first_blocks_exist
