use Rattle.existence_law.proofs.Encoding.{formulas_exist}
use Rattle.existence_law.proofs.queries.formulas_exist.Goals as goal

pub returns : goal.returns
returns c = formulas_exist
