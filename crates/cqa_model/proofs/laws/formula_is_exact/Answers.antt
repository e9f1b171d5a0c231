use Rattle.cqa_model.proofs.Databases
use Rattle.cqa_model.proofs.laws.formula_is_exact.Goals as goal

pub returns : goal.returns
returns c = Databases.formula_is_exact
