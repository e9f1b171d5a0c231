use Rattle.row_lists.proofs.Avoided
use Rattle.row_lists.proofs.laws.avoided_by_free.Goals as goal

pub returns : goal.returns
returns c = Avoided.avoided_by_free
