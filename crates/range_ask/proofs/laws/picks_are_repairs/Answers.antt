use Rattle.range_ask.proofs.Picked
use Rattle.range_ask.proofs.laws.picks_are_repairs.Goals as goal

pub returns : goal.returns
returns c = Picked.picks_are_repairs
