use Rattle.existence_law.proofs.Continuing.{group_replies_exist}
use Rattle.existence_law.proofs.groups.group_replies_exist.Goals as goal

pub returns : goal.returns
returns c = group_replies_exist
