use Rattle.rewrite_check.proofs.Once.{leads_once}
use Rattle.rewrite_check.proofs.laws.leads_once.Goals as goal

pub returns : goal.returns
returns c = leads_once
