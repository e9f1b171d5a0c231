use Rattle.existence_law.proofs.Refuting.{refutations_exist}
use Rattle.existence_law.proofs.queries.refutations_exist.Goals as goal

pub returns : goal.returns
returns c = refutations_exist
