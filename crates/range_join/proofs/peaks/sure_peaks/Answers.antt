use Rattle.std.proofs.Common.{◌<◌, Contains, refl, sym, subst}
use Rattle.range_join.specs.declared.carriers.Extreme.TheVariants.{Least}
use Rattle.range_join.specs.Peaks.{best_at}
use Rattle.range_join.proofs.Peaking.{end-furthest}
use Rattle.range_join.proofs.Spots.{firsts-below}
use Rattle.range_join.proofs.peaks.sure_peaks.Goals as goal

pub peak-requires : goal.peak-requires
peak-requires c p m =
    subst (λ n. p < n) (sym c.requires.size) (firsts-below _ c.args.db.now c.args.table c.in_ok-low.low.items c.in_ok-low.ensures p (subst (λ xs. Contains xs p) c.deref.ensures.value m))

pub returns : goal.returns
returns c = record {
  low = c.in_ok-low.ensures;
  high_is = refl;
  least = end-furthest Least c.args.col c.peak.result (best_at c.args.col c.args.bests.now) c.deref.result.now _ c.peak.ensures c.deref.ensures.value _ c.in_ok-least.ensures;
  greatest = c.in_ok-greatest.ensures;
}
