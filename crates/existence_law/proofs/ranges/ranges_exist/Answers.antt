use Rattle.existence_law.proofs.Ranging.{ranges_exist}
use Rattle.existence_law.proofs.ranges.ranges_exist.Goals as goal

pub returns : goal.returns
returns c = ranges_exist
