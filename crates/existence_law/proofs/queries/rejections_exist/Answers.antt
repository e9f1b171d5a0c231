use Rattle.existence_law.proofs.Rejecting.{rejections_exist}
use Rattle.existence_law.proofs.queries.rejections_exist.Goals as goal

pub returns : goal.returns
returns c = rejections_exist
