use Rattle.existence_law.proofs.UnionEncoding.{union_formulas_exist}
use Rattle.existence_law.proofs.unions.union_formulas_exist.Goals as goal

pub returns : goal.returns
returns c = union_formulas_exist
