use Rattle.rows_against.proofs.Hitting.{rows_exclude_by_hits}
use Rattle.rows_against.proofs.laws.rows_exclude_by_hits.Goals as goal

pub returns : goal.returns
returns c = rows_exclude_by_hits
