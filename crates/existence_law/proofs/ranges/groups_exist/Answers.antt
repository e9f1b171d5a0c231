use Rattle.existence_law.proofs.Grouping.{groups_exist}
use Rattle.existence_law.proofs.ranges.groups_exist.Goals as goal

pub returns : goal.returns
returns c = groups_exist
