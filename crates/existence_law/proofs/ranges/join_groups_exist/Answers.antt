use Rattle.existence_law.proofs.JoinGrouping.{join_groups_exist}
use Rattle.existence_law.proofs.ranges.join_groups_exist.Goals as goal

pub returns : goal.returns
returns c = join_groups_exist
