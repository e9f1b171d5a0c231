use Rattle.cqa_model.proofs.PartialLaws
use Rattle.cqa_model.proofs.laws.witnesses_stay.Goals as goal

pub returns : goal.returns
returns c = PartialLaws.witnesses_stay
