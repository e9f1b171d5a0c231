use Rattle.cnf_form.proofs.Sound.{additions_follow}
use Rattle.cnf_form.proofs.laws.additions_follow.Goals as goal

pub returns : goal.returns
returns c = additions_follow
