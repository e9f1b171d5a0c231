use Rattle.reading_law.proofs.Members.{tests_are_resolved}
use Rattle.reading_law.proofs.names.tests_are_resolved.Goals as goal

pub returns : goal.returns
returns c = tests_are_resolved
