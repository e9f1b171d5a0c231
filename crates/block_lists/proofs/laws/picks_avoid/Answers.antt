use Rattle.block_lists.proofs.Deciding
use Rattle.block_lists.proofs.laws.picks_avoid.Goals as goal

pub returns : goal.returns
returns c = Deciding.picks_avoid
