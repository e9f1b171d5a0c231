use Rattle.row_lists.proofs.Formulas
use Rattle.row_lists.proofs.laws.picks_reject_lists.Goals as goal

pub returns : goal.returns
returns c = Formulas.picks_reject_lists
