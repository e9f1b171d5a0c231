use Rattle.std.proofs.Common.{◌≡◌, ◌+◌, length}
use Rattle.pair_refutation.specs.Refuting.{AreChained}
use Rattle.pair_refutation.proofs.chains.chain_pairs.Given as goal

abbrev pub invariant-loop-place : goal.invariant-loop-place
invariant-loop-place l = record {
  chained : AreChained l.pairs l.place l.chains.last.items l.chains.left.items l.chains.right.items;
  size : length l.chains.last.items ≡ l.vars + 1;
}
