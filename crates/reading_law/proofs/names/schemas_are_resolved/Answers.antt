use Rattle.reading_law.proofs.Members.{schemas_are_resolved}
use Rattle.reading_law.proofs.names.schemas_are_resolved.Goals as goal

pub returns : goal.returns
returns c = schemas_are_resolved
