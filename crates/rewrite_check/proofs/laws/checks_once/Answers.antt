use Rattle.rewrite_check.proofs.Unique.{checks_once}
use Rattle.rewrite_check.proofs.laws.checks_once.Goals as goal

pub returns : goal.returns
returns c = checks_once
