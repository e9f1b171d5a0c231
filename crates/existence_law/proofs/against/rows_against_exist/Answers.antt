use Rattle.existence_law.proofs.Hitting.{rows_against_exist}
use Rattle.existence_law.proofs.against.rows_against_exist.Goals as goal

pub returns : goal.returns
returns c = rows_against_exist
