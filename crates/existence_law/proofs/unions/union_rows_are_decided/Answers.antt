use Rattle.existence_law.proofs.UnionAnswering.{union_rows_are_decided}
use Rattle.existence_law.proofs.unions.union_rows_are_decided.Goals as goal

pub returns : goal.returns
returns c = union_rows_are_decided
