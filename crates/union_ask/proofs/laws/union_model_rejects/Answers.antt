use Rattle.union_ask.proofs.Rejecting
use Rattle.union_ask.proofs.laws.union_model_rejects.Goals as goal

pub returns : goal.returns
returns c = Rejecting.union_model_rejects
