use Rattle.block_lists.proofs.Encoding
use Rattle.block_lists.proofs.laws.group_formula_is_writable.Goals as goal

pub returns : goal.returns
returns c = Encoding.group_formula_is_writable
