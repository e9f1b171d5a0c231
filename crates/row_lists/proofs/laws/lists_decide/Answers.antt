use Rattle.row_lists.proofs.Formulas
use Rattle.row_lists.proofs.laws.lists_decide.Goals as goal

pub returns : goal.returns
returns c = Formulas.lists_decide
