use Rattle.cqa_model.proofs.Databases
use Rattle.cqa_model.proofs.laws.elimination_is_exact.Goals as goal

pub returns : goal.returns
returns c = Databases.elimination_is_exact
