use Rattle.std.proofs.lemmas.List.Sorted.{IsPermutation-trans}
use Rattle.row_order.proofs.settle.settle.Goals as goal

pub loop-start-preserved : goal.loop-start-preserved
loop-start-preserved c = IsPermutation-trans _ _ _ c.loop-start.invariant c.settle_round.ensures
