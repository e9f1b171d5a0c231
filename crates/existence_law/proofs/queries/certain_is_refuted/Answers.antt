use Rattle.existence_law.proofs.Encoding.{certain_is_refuted}
use Rattle.existence_law.proofs.queries.certain_is_refuted.Goals as goal

pub returns : goal.returns
returns c = certain_is_refuted
