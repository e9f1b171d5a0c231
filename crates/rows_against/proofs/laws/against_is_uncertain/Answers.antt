use Rattle.rows_against.proofs.Hitting.{against_is_uncertain}
use Rattle.rows_against.proofs.laws.against_is_uncertain.Goals as goal

pub returns : goal.returns
returns c = against_is_uncertain
