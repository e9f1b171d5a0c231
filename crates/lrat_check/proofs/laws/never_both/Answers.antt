use Rattle.lrat_check.proofs.Exact.{not_both}
use Rattle.lrat_check.proofs.laws.never_both.Goals as goal

pub returns : goal.returns
returns c = not_both
