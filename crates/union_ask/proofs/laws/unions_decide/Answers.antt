use Rattle.union_ask.proofs.Rejecting
use Rattle.union_ask.proofs.laws.unions_decide.Goals as goal

pub returns : goal.returns
returns c = Rejecting.unions_decide
