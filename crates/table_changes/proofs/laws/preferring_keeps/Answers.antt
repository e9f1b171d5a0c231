use Rattle.table_changes.proofs.PreferredLaws
use Rattle.table_changes.proofs.laws.preferring_keeps.Goals as goal

pub returns : goal.returns
returns c = PreferredLaws.preferring_keeps
