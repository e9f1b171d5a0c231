use Rattle.existence_law.proofs.Rejecting.{kept_rows_have_names}
use Rattle.existence_law.proofs.queries.kept_rows_have_names.Goals as goal

pub returns : goal.returns
returns c = kept_rows_have_names
