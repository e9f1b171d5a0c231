use Rattle.range_ask.proofs.Claims
use Rattle.range_ask.proofs.laws.ends_are_one.Goals as goal

pub returns : goal.returns
returns c = Claims.ends_are_one
