use Rattle.std.proofs.Common.{length}
use Rattle.fo_plan.proofs.links.+add_chain.Given as goal

abbrev pub decreases-add_chain : goal.decreases-add_chain
decreases-add_chain l = length l.atoms.now
