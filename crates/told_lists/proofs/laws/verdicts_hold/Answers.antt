use Rattle.told_lists.proofs.Judged
use Rattle.told_lists.proofs.laws.verdicts_hold.Goals as goal

pub returns : goal.returns
returns c = Judged.verdicts_hold
