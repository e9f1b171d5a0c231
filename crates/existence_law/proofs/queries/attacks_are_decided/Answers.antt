use Rattle.existence_law.proofs.Attacking.{attacks_are_decided}
use Rattle.existence_law.proofs.queries.attacks_are_decided.Goals as goal

pub returns : goal.returns
returns c = attacks_are_decided
