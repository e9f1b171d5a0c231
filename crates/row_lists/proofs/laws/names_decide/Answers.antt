use Rattle.row_lists.proofs.Lists
use Rattle.row_lists.proofs.laws.names_decide.Goals as goal

pub returns : goal.returns
returns c = Lists.names_decide
