use Rattle.cqa_model.proofs.Databases
use Rattle.cqa_model.proofs.laws.possible_is_candidate.Goals as goal

pub returns : goal.returns
returns c = Databases.possible_is_candidate
