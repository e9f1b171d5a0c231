use Rattle.cqa_model.proofs.Databases
use Rattle.cqa_model.proofs.laws.certain_or_rejected.Goals as goal

pub returns : goal.returns
returns c = Databases.certain_or_rejected
