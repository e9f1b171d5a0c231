use Rattle.std.proofs.Common.{rules}
use Rattle.range_join.specs.Peaks.{best_at}
use Rattle.range_join.proofs.Peaking.{furthest-order}
use Rattle.range_join.proofs.Chosen.{if_ok}
use Rattle.range_join.proofs.peaks.furthest.Goals as goal

pub returns : goal.returns
returns c =
    let best = best_at c.args.col c.args.bests.now in
    if_ok c.firsts.result _ _ (λ places firsts. firsts _ (furthest-order c.args.way best) (λ i j goes li lj p. search rules)) c.firsts.ensures
