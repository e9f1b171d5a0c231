use Rattle.block_lists.proofs.Wider
use Rattle.block_lists.proofs.laws.wider_may_be_left_out.Goals as goal

pub returns : goal.returns
returns c = Wider.wider_may_be_left_out
