use Rattle.existence_law.proofs.Joining.{join_ranges_exist}
use Rattle.existence_law.proofs.ranges.join_ranges_exist.Goals as goal

pub returns : goal.returns
returns c = join_ranges_exist
