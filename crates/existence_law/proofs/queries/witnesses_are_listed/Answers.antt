use Rattle.existence_law.proofs.Naming.{witnesses_are_listed}
use Rattle.existence_law.proofs.queries.witnesses_are_listed.Goals as goal

pub returns : goal.returns
returns c = witnesses_are_listed
