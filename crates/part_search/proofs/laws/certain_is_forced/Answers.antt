use Rattle.part_search.proofs.Forced
use Rattle.part_search.proofs.laws.certain_is_forced.Goals as goal

pub returns : goal.returns
returns c = Forced.certain_is_forced
