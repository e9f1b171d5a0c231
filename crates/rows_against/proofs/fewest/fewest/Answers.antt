use Rattle.std.proofs.Common.{◌∙◌, ◌+◌, ap, length, refl, set, subst, sym, arith, true, true≢false, get_or}
use Rattle.std.proofs.lemmas.List.Elements.{Contains-get_or}
use Rattle.std.specs.List.Sorted.{IsNonDecreasingBy}
use Rattle.rows_against.specs.declared.fewest.LastHit.{LastHit}
use Rattle.rows_against.specs.Fewest.{AreLastHits, IsHitAmong}
use Rattle.rows_against.proofs.Choosing.{AreTaken, all_taken, none, nothing_taken, taken_none, taken_one}
use Rattle.rows_against.proofs.fewest.fewest.Goals as goal

pub loop-last-init : goal.loop-last-init
loop-last-init c =
    let lasts = c.as_slice-last-items.result.now in
    let marks = c.in_ok-marks.marks.items in
    subst (AreTaken c.args.hits.now c.args.witnesses c.args.numbers lasts 0 marks) (sym c.new-kept.ensures.items)
    (nothing_taken c.args.hits.now c.args.witnesses c.args.numbers lasts marks (c.in_ok-marks.ensures.items_if_clones_equal (λ y e. e)))

pub is_hit-requires-clause-wide : goal.is_hit-requires-clause-wide
is_hit-requires-clause-wide c = λ F l.
    let lasts = c.as_slice-last-items.result.now in
    let at = c.loop-last.last-index in
    let all = subst (AreLastHits c.args.hits.now c.args.witnesses) (sym c.as_slice-last-items.ensures.value) c.in_ok-lasts.ensures.all in
    let there = (all.each (get_or lasts at none) (Contains-get_or lasts at none c.loop-last-test.true)).0 in
    let wide = c.requires.wide F l in
    omega (arith, there, wide)

pub is_hit-requires-clause-below : goal.is_hit-requires-clause-below
is_hit-requires-clause-below c = λ number hit.
    let lasts = c.as_slice-last-items.result.now in
    let at = c.loop-last.last-index in
    let last = get_or lasts at none in
    let all = subst (AreLastHits c.args.hits.now c.args.witnesses) (sym c.as_slice-last-items.ensures.value) c.in_ok-lasts.ensures.all in
    let there = (all.each last (Contains-get_or lasts at none c.loop-last-test.true)).0 in
    let below = c.requires.below last.witness number there hit in
    let size = c.loop-last.invariant.size in
    let same = ap length c.as_slice.ensures.value in
    omega (arith, below, size, same)

pub loop-last-preserved-then-is_hit : goal.loop-last-preserved-then-is_hit
loop-last-preserved-then-is_hit c =
    let lasts = c.as_slice-last-items.result.now in
    let last = get_or lasts c.loop-last.last-index none in
    taken_none c.args.hits.now c.args.witnesses c.args.numbers lasts c.loop-last.last-index c.loop-last.marks.items c.loop-last.kept.items c.loop-last.invariant c.loop-last-test.true last refl
    (subst (λ marks. IsHitAmong c.args.hits.now marks last.witness) c.as_slice.ensures.value (c.is_hit.ensures.0 c.if-is_hit.true))

pub index_mut-requires : goal.index_mut-requires
index_mut-requires c =
    let lasts = c.as_slice-last-items.result.now in
    let at = c.loop-last.last-index in
    let last = get_or lasts at none in
    let all = subst (AreLastHits c.args.hits.now c.args.witnesses) (sym c.as_slice-last-items.ensures.value) c.in_ok-lasts.ensures.all in
    let its = all.each last (Contains-get_or lasts at none c.loop-last-test.true) in
    let below = c.requires.below last.witness last.number its.0 its.1.0 in
    let size = c.loop-last.invariant.size in
    omega (arith, below, size, c.loop-last.marks.ok)

pub loop-last-preserved : goal.loop-last-preserved
loop-last-preserved c =
    let hits = c.args.hits.now in
    let lasts = c.as_slice-last-items.result.now in
    let at = c.loop-last.last-index in
    let last = get_or lasts at none in
    let marks = c.loop-last.marks.items in
    let kept = c.loop-last.kept.items in
    let all = subst (AreLastHits hits c.args.witnesses) (sym c.as_slice-last-items.ensures.value) c.in_ok-lasts.ensures.all in
    let its = all.each last (Contains-get_or lasts at none c.loop-last-test.true) in
    let order = subst (IsNonDecreasingBy (λ (x : LastHit). x.number)) (sym c.as_slice-last-items.ensures.value) c.in_ok-lasts.ensures.rising in
    subst (AreTaken hits c.args.witnesses c.args.numbers lasts (at + 1) (set marks last.number true)) (sym c.in_ok-push.ensures.items)
    (taken_one hits c.args.witnesses c.args.numbers lasts at marks kept c.loop-last.invariant c.loop-last-test.true last refl order its.0 its.1 (c.requires.below last.witness last.number its.0 its.1.0)
    (λ among. true≢false (sym (c.is_hit.ensures.1 (subst (λ ms. IsHitAmong hits ms last.witness) (sym c.as_slice.ensures.value) among)) ∙ c.if-is_hit.false)))

pub returns : goal.returns
returns c =
    let lasts = c.as_slice-last-items.result.now in
    let all = subst (AreLastHits c.args.hits.now c.args.witnesses) (sym c.as_slice-last-items.ensures.value) c.in_ok-lasts.ensures.all in
    all_taken c.args.hits.now c.args.witnesses c.args.numbers lasts c.loop-last.last-index c.loop-last.marks.items c.loop-last.kept.items c.loop-last.invariant c.loop-last-test.false all
