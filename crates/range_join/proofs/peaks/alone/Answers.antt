use Rattle.range_join.specs.Peaks.{best_at}
use Rattle.range_join.proofs.Peaking.{rank-order}
use Rattle.range_join.proofs.Chosen.{if_ok}
use Rattle.range_join.proofs.peaks.alone.Goals as goal

pub returns : goal.returns
returns c = if_ok c.firsts.result _ _ (λ places firsts col. firsts _ (rank-order c.args.top (best_at col c.args.bests.now)) (λ i j goes li lj p. p col)) c.firsts.ensures
