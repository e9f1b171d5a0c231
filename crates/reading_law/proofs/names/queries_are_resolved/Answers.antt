use Rattle.reading_law.proofs.Queries.{queries_are_resolved}
use Rattle.reading_law.proofs.names.queries_are_resolved.Goals as goal

pub returns : goal.returns
returns c = queries_are_resolved
