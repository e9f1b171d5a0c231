use Rattle.cqa_model.proofs.Databases
use Rattle.cqa_model.proofs.laws.rewriting_is_exact.Goals as goal

pub returns : goal.returns
returns c = Databases.rewriting_is_exact
