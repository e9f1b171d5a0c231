use Rattle.cqa_model.proofs.PartialLaws
use Rattle.cqa_model.proofs.laws.no_attack_comes.Goals as goal

pub returns : goal.returns
returns c = PartialLaws.no_attack_comes
