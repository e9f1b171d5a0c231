use Rattle.std.proofs.Common.{ℕ, ◌<◌, length, slice_index, subst, sym}
use Rattle.pair_refutation.proofs.Assembling.{rows-are}
use Rattle.pair_refutation.proofs.refuting.by_order.Goals as goal

pub blocks_of-requires-clause-rising : goal.blocks_of-requires-clause-rising
blocks_of-requires-clause-rising c =
    subst (λ z. (u v : ℕ) → u < v → v < length z → slice_index z u < slice_index z v) (sym c.deref-2.ensures.value) (rows-are c.args.cnf.now c.args.graph.now c.requires.read).rising
