use Rattle.existence_law.proofs.Parting.{parts_are_decided}
use Rattle.existence_law.proofs.unions.parts_are_decided.Goals as goal

pub returns : goal.returns
returns c = parts_are_decided
