use Rattle.reading_law.proofs.Members.{goals_are_resolved}
use Rattle.reading_law.proofs.names.goals_are_resolved.Goals as goal

pub returns : goal.returns
returns c = goals_are_resolved
