use Rattle.cqa_model.proofs.PartialLaws
use Rattle.cqa_model.proofs.laws.keys_go.Goals as goal

pub returns : goal.returns
returns c = PartialLaws.keys_go
