use Rattle.part_search.proofs.Forced
use Rattle.part_search.proofs.laws.names_of_parts.Goals as goal

pub returns : goal.returns
returns c = Forced.names_of_parts
