use Rattle.told_lists.proofs.Judged
use Rattle.told_lists.proofs.laws.judged_is_certain.Goals as goal

pub returns : goal.returns
returns c = Judged.judged_is_certain
