use Rattle.part_search.proofs.Forced
use Rattle.part_search.proofs.laws.closed_by_parts.Goals as goal

pub returns : goal.returns
returns c = Forced.closed_by_parts
