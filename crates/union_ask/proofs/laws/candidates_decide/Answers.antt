use Rattle.union_ask.proofs.Apart
use Rattle.union_ask.proofs.laws.candidates_decide.Goals as goal

pub returns : goal.returns
returns c = Apart.candidates_decide
