use Rattle.rewrite_check.proofs.Same.{query_once}
use Rattle.rewrite_check.proofs.laws.query_once.Goals as goal

pub returns : goal.returns
returns c = query_once
