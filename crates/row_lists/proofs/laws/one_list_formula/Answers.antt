use Rattle.row_lists.proofs.Formulas
use Rattle.row_lists.proofs.laws.one_list_formula.Goals as goal

pub returns : goal.returns
returns c = Formulas.one_list_formula
