use Rattle.reading_law.proofs.Members.{groups_are_resolved}
use Rattle.reading_law.proofs.names.groups_are_resolved.Goals as goal

pub returns : goal.returns
returns c = groups_are_resolved
