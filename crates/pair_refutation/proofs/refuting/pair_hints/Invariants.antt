use Rattle.std.proofs.Common.{ℕ}
use Rattle.pair_refutation.specs.Refuting.{ArePairHints}
use Rattle.pair_refutation.proofs.Chaining.{IsFollowed, chain-size}
use Rattle.pair_refutation.proofs.refuting.pair_hints.Given as goal

abbrev pub invariant-chain : goal.invariant-chain
invariant-chain l = (n : ℕ) × IsFollowed l.graph.pairs.items l.x n l.at × ArePairHints l.graph.pairs.items l.graph.blocks l.x n l.hints.items

abbrev pub decreases-chain : goal.decreases-chain
decreases-chain l = chain-size l.at
