use Rattle.reading_law.proofs.Members.{keys_are_resolved}
use Rattle.reading_law.proofs.names.keys_are_resolved.Goals as goal

pub returns : goal.returns
returns c = keys_are_resolved
