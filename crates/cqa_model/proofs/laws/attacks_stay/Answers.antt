use Rattle.cqa_model.proofs.PartialLaws
use Rattle.cqa_model.proofs.laws.attacks_stay.Goals as goal

pub returns : goal.returns
returns c = PartialLaws.attacks_stay
