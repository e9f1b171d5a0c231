use Rattle.reading_law.proofs.Queries.{unions_are_resolved}
use Rattle.reading_law.proofs.names.unions_are_resolved.Goals as goal

pub returns : goal.returns
returns c = unions_are_resolved
