use Rattle.std.proofs.Common.{◌≡◌, inl, inr, ◌∙◌, ◌<◌, ◌+◌, None, length, sym, ap, subst, arith}
use Rattle.std.proofs.lemmas.List.{get_or_default}
use Rattle.range_join.specs.Peaks.{best_at, lags, held_value, IsTopPlace}
use Rattle.range_join.proofs.Peaking.{top-more, top-stays}
use Rattle.range_join.proofs.peaks.top_of.Goals.{then-lags, else-lags}
use Rattle.range_join.proofs.peaks.top_of.Goals as goal

pub loop-place-preserved : goal.loop-place-preserved
loop-place-preserved c =
    let way = c.args.way in
    let bests = c.args.bests.now in
    let best = best_at c.args.col bests in
    let top = c.loop-place.top in
    let place = c.loop-place.place in
    let l = c.loop-place-test.true in
    let below : top < length bests = elim c.loop-place.invariant.0 [ inl a ↦ omega (arith, a, l) | inr e ↦ omega (arith, e, l) ] in
    let first = c.index-bests-top.is ∙ get_or_default bests top c.index-bests-top.result None below in
    let second = c.index-bests-place.is ∙ get_or_default bests place c.index-bests-place.result None l in
    let lagged : lags way (best top) (best place) ≡ c.lags.result =
    sym (c.lags.ensures ∙ (ap (λ o. lags way (held_value c.args.col o) (held_value c.args.col c.index-bests-place.result)) first ∙ ap (λ o. lags way (best top) (held_value c.args.col o)) second)) in
    elim c.if-lags.branch [
      | then-lags w ↦ (
          let e = w.top-is in
          (inl (omega (arith, e)), subst (IsTopPlace way best (place + 1)) (sym e) (top-more way best place top c.loop-place.invariant.1 (lagged ∙ w.if-lags.true)))
          )
      | else-lags w ↦ (
          let e = w.top-is in (
            elim c.loop-place.invariant.0 [ inl a ↦ inl (omega (arith, a, e)) | inr z ↦ inr (e ∙ z) ],
            subst (IsTopPlace way best (place + 1)) (sym e) (top-stays way best place top c.loop-place.invariant.1 (lagged ∙ w.if-lags.false)),
          )
          )
    ]
