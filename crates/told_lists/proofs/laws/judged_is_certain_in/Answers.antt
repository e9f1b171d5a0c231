use Rattle.told_lists.proofs.Judged
use Rattle.told_lists.proofs.laws.judged_is_certain_in.Goals as goal

pub returns : goal.returns
returns c = Judged.judged_is_certain_in
