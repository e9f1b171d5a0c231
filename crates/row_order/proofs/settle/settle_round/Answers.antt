use Rattle.std.proofs.lemmas.List.Sorted.{IsPermutation-trans}
use Rattle.row_order.proofs.settle.settle_round.Goals as goal

pub loop-preserved : goal.loop-preserved
loop-preserved c = IsPermutation-trans _ _ _ c.loop.invariant c.swap.ensures.permutation
