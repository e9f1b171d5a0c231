use Rattle.union_ask.proofs.Apart
use Rattle.union_ask.proofs.laws.apart_decide.Goals as goal

pub returns : goal.returns
returns c = Apart.apart_decide
