use Rattle.rewrite_check.proofs.Same.{same_queries}
use Rattle.rewrite_check.proofs.laws.same_queries.Goals as goal

pub returns : goal.returns
returns c = same_queries
