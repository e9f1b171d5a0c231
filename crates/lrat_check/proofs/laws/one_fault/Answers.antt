use Rattle.lrat_check.proofs.Exact.{one_first}
use Rattle.lrat_check.proofs.laws.one_fault.Goals as goal

pub returns : goal.returns
returns c = one_first
