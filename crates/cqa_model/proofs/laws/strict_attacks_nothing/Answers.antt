use Rattle.cqa_model.proofs.Strict
use Rattle.cqa_model.proofs.laws.strict_attacks_nothing.Goals as goal

pub returns : goal.returns
returns c = Strict.strict_attacks_nothing
