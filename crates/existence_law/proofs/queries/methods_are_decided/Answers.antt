use Rattle.existence_law.proofs.Attacking.{methods_are_decided}
use Rattle.existence_law.proofs.queries.methods_are_decided.Goals as goal

pub returns : goal.returns
returns c = methods_are_decided
