use Rattle.choice_values.proofs.Choices.{holds-whole}
use Rattle.choice_values.proofs.laws.holds_is_holds_whole.Goals as goal

pub returns : goal.returns
returns c = holds-whole
