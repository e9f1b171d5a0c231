use Rattle.std.proofs.Common.{◌≡◌, ◌∙◌, ◌+◌, None, suc, drop, sym, ap, arith, slice_index_or}
use Rattle.std.proofs.Math.Seq.{drop-cons}
use Rattle.std.proofs.lemmas.List.{get_or_default}
use Rattle.std.proofs.lemmas.List.Elements.{Contains-get_or}
use Rattle.range_join.specs.Peaks.{best_at, further, peak_from, held_value}
use Rattle.range_join.proofs.peaks.peak.Goals as goal

pub bounds-bests-place : goal.bounds-bests-place
bounds-bests-place c =
    let places = c.args.places.now in
    let i = c.loop-place.place-index in
    c.requires (slice_index_or places i 0) (Contains-get_or places i 0 c.loop-place-test.true)

pub loop-place-preserved : goal.loop-place-preserved
loop-place-preserved c =
    let best = best_at c.args.col c.args.bests.now in
    let places = c.args.places.now in
    let i = c.loop-place.place-index in
    let before = held_value c.args.col c.loop-place.best in
    let row = c.index-bests-place.is ∙ get_or_default c.args.bests.now (slice_index_or places i 0) c.index-bests-place.result None (c.requires (slice_index_or places i 0) (Contains-get_or places i 0 c.loop-place-test.true)) in
    let suc-is : i + 1 ≡ suc i = omega arith in
    ap (λ f. peak_from c.args.way f best (drop (i + 1) places)) (c.further-best.ensures ∙ ap (λ o. further c.args.way before (held_value c.args.col o)) row)
    ∙ (ap (λ k. peak_from c.args.way (further c.args.way before (best (slice_index_or places i 0))) best (drop k places)) suc-is
    ∙ (sym (ap (λ ps. peak_from c.args.way before best ps) (drop-cons places i 0 c.loop-place-test.true)) ∙ c.loop-place.invariant))
