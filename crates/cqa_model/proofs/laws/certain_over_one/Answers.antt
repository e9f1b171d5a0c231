use Rattle.cqa_model.proofs.Databases
use Rattle.cqa_model.proofs.laws.certain_over_one.Goals as goal

pub returns : goal.returns
returns c = Databases.certain_over_one
