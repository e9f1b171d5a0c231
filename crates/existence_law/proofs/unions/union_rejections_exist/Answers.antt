use Rattle.existence_law.proofs.UnionRejecting.{union_rejections_exist}
use Rattle.existence_law.proofs.unions.union_rejections_exist.Goals as goal

pub returns : goal.returns
returns c = union_rejections_exist
