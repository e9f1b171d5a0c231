use Rattle.std.proofs.Common.{◌^◌, ◌<◌, rules, arith, refl, sym, ◌∙◌, subst, length}
use mir.Val.{SFits, Fits}
use mir.Syntax.{w32, w64, w128}
use Rattle.std.proofs.lemmas.Int.{to_z-of_z}
use Rattle.range_ask.specs.Walking.{IsWithinBlocks}
use Rattle.range_ask.specs.Tallying.{AtMostℤ, AtLeastℤ}
use Rattle.range_ask.proofs.Walked.{within-one}
use Rattle.range_ask.proofs.Adding.{adding-more, adding-open, either-is, saturated-sum}
use Rattle.range_ask.proofs.total.more_total.Goals as goal

pub returns-then-total-turn : goal.returns-then-total-turn
returns-then-total-turn c =
    let least : SFits w64 c.args.total.least = search rules in
    let most : SFits w64 c.args.total.most = search rules in
    let low : SFits w128 c.args.total.low = search rules in
    let high : SFits w128 c.args.total.high = search rules in
    let worth : SFits w64 c.args.worth = search rules in
    let lesser : SFits w64 c.lesser.result = search rules in
    let greater : SFits w64 c.greater.result = search rules in
    λ f p front block n adds is h l t e a.
    adding-more f p adds c.args.turn.sure front block h n l t c.args.turn.number is c.args.worth e c.args.total _ c.if-total-turn.true refl (to_z-of_z w128 c.args.total.low low) (to_z-of_z w128 c.args.total.high high)
    (either-is AtMostℤ _ _ _ _ _ _ (to_z-of_z w64 c.args.total.least least) (to_z-of_z w64 c.args.worth worth) (sym (to_z-of_z w64 c.lesser.result lesser)) c.lesser.ensures)
    (either-is AtLeastℤ _ _ _ _ _ _ (to_z-of_z w64 c.args.total.most most) (to_z-of_z w64 c.args.worth worth) (sym (to_z-of_z w64 c.greater.result greater)) c.greater.ensures)
    (subst (IsWithinBlocks 1) (sym (to_z-of_z w64 c.lesser.result lesser)) (within-one c.lesser.result lesser)) (subst (IsWithinBlocks 1) (sym (to_z-of_z w64 c.greater.result greater)) (within-one c.greater.result greater)) a

pub returns : goal.returns
returns c =
    let least : SFits w64 c.args.total.least = search rules in
    let most : SFits w64 c.args.total.most = search rules in
    let low : SFits w128 c.args.total.low = search rules in
    let high : SFits w128 c.args.total.high = search rules in
    let worth : SFits w64 c.args.worth = search rules in
    let other : SFits w64 c.beside-other.result = search rules in
    let lesser : SFits w64 c.lesser-2.result = search rules in
    let greater : SFits w64 c.greater-2.result = search rules in
    let lows : SFits w128 c.saturating_add.result = search rules in
    let highs : SFits w128 c.saturating_add-2.result = search rules in
    let number : Fits w32 c.args.turn.number = search rules in
    let same = to_z-of_z w64 c.args.worth worth in
    λ f p front block n adds is h l t e a.
    let few : length front < 2 ^ 32 = let m = number.fits in omega (arith, m, is) in
    adding-open f p adds c.args.turn.sure front block h n l t c.args.turn.number is c.args.worth e c.args.total _ c.if-total-turn.false c.beside-other.result
    (λ s. c.beside-other.ensures.sure s ∙ same) c.beside-other.ensures.loose refl
    (λ w. saturated-sum (length front) few c.args.total.low c.args.total.least c.saturating_add.result low least lows c.saturating_add.ensures w)
    (λ w. saturated-sum (length front) few c.args.total.high c.args.total.most c.saturating_add-2.result high most highs c.saturating_add-2.ensures w)
    (either-is AtMostℤ _ _ _ _ _ _ (to_z-of_z w64 c.beside-other.result other) same (sym (to_z-of_z w64 c.lesser-2.result lesser)) c.lesser-2.ensures)
    (either-is AtLeastℤ _ _ _ _ _ _ (to_z-of_z w64 c.beside-other.result other) same (sym (to_z-of_z w64 c.greater-2.result greater)) c.greater-2.ensures)
    (subst (IsWithinBlocks 1) (sym (to_z-of_z w64 c.lesser-2.result lesser)) (within-one c.lesser-2.result lesser)) (subst (IsWithinBlocks 1) (sym (to_z-of_z w64 c.greater-2.result greater)) (within-one c.greater-2.result greater)) a
