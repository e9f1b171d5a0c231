use Rattle.union_ask.proofs.Modelled.{model-rejects}
use Rattle.union_ask.proofs.laws.model_rejects.Goals as goal

pub returns : goal.returns
returns c db q row e model names fits is m repair picks = model-rejects q db row e model is m fits names repair.0 repair.1 repair.2 picks
