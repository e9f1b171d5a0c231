use Rattle.row_lists.proofs.Formulas
use Rattle.row_lists.proofs.laws.list_clauses_rise.Goals as goal

pub returns : goal.returns
returns c = Formulas.list_clauses_rise
