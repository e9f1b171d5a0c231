use Rattle.table_changes.proofs.PreferredLaws
use Rattle.table_changes.proofs.laws.preferred_repairs.Goals as goal

pub returns : goal.returns
returns c = PreferredLaws.preferred_repairs
