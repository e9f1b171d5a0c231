use Rattle.reading_law.proofs.JoinedRanges.{ranges_are_resolved}
use Rattle.reading_law.proofs.names.ranges_are_resolved.Goals as goal

pub returns : goal.returns
returns c = ranges_are_resolved
