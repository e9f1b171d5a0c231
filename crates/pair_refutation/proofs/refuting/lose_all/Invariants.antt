use Rattle.std.proofs.Common.{ℕ}
use Rattle.pair_refutation.proofs.Chaining.{chain-size}
use Rattle.pair_refutation.proofs.Losing.{IsLosing}
use Rattle.pair_refutation.proofs.refuting.lose_all.Given as goal

abbrev pub invariant-chain : goal.invariant-chain
invariant-chain l = (n : ℕ) × IsLosing l.cnf l.graph l.x l.last l.fn.lost n l.at l.steps.items l.lost

abbrev pub decreases-chain : goal.decreases-chain
decreases-chain l = chain-size l.at
