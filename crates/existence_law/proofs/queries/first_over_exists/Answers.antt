use Rattle.existence_law.proofs.Limiting.{first_over_exists}
use Rattle.existence_law.proofs.queries.first_over_exists.Goals as goal

pub returns : goal.returns
returns c = first_over_exists
