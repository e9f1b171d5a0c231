use Rattle.existence_law.proofs.Answering.{answers_exist}
use Rattle.existence_law.proofs.queries.answers_exist.Goals as goal

pub returns : goal.returns
returns c = answers_exist
