use Rattle.existence_law.proofs.Answering.{rows_are_decided}
use Rattle.existence_law.proofs.queries.rows_are_decided.Goals as goal

pub returns : goal.returns
returns c = rows_are_decided
