use Rattle.existence_law.proofs.UnionAnswering.{union_first_over_exists}
use Rattle.existence_law.proofs.unions.union_first_over_exists.Goals as goal

pub returns : goal.returns
returns c = union_first_over_exists
