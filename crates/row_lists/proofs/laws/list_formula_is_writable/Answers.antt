use Rattle.row_lists.proofs.Written
use Rattle.row_lists.proofs.laws.list_formula_is_writable.Goals as goal

pub returns : goal.returns
returns c = Written.list_formula_is_writable
