use Rattle.row_lists.proofs.Formulas
use Rattle.row_lists.proofs.laws.formula_of_names.Goals as goal

pub returns : goal.returns
returns c = Formulas.formula_of_names
