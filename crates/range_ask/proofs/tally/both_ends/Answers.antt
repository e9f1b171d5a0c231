use Rattle.std.proofs.Common.{rules, sym, ◌∙◌, ap, subst, length}
use Rattle.std.specs.Prelude.{◌+ℤ◌}
use mir.Val.{SFits}
use mir.Syntax.{w64, w128}
use Rattle.std.proofs.lemmas.Int.{to_z-of_z}
use Rattle.aggregate_range.specs.declared.aggregate.End.TheVariants.{Number}
use Rattle.range_ask.specs.declared.total.Total.{Total}
use Rattle.range_ask.specs.Picks.{worth}
use Rattle.range_ask.specs.Finding.{added}
use Rattle.range_ask.specs.Walking.{IsTotal, IsWithinBlocks}
use Rattle.range_ask.specs.Tallying.{AreSums}
use Rattle.range_ask.proofs.Adding.{passed-sum}
use Rattle.range_ask.proofs.Grouped.{whole-sums, total-ends}
use Rattle.range_ask.proofs.tally.both_ends.Goals as goal

pub returns-in-Count : goal.returns-in-Count
returns-in-Count c =
    let goal_is = c.in-Count.is in
    let adds : IsTotal c.args.goal.now = search rules in
    let t = c.total_of-total.result in
    let is = c.total_of-total.ensures in
    let low : SFits w128 t.low = search rules in
    let least : SFits w64 t.least = search rules in
    let high : SFits w128 t.high = search rules in
    let most : SFits w64 t.most = search rules in
    let lows : SFits w128 c.sum_of-low.result = search rules in
    let highs : SFits w128 c.sum_of-high.result = search rules in
    let from = passed-sum t.low t.least low least in
    let to = passed-sum t.high t.most high most in
    λ p blocks few w.
    let sums : AreSums (worth p (added c.args.goal.now)) blocks t = subst (AreSums (worth p (added c.args.goal.now)) blocks) (sym is) (whole-sums c.args.goal.now adds p blocks c.args.tally w) in
    total-ends c.args.goal.now adds c.args.tally _ _
    (ap Number (to_z-of_z w128 c.sum_of-low.result lows ∙ (c.sum_of-low.ensures (length blocks) few (subst (IsWithinBlocks (length blocks)) (sym from) sums.low.within) ∙ (from ∙ ap (λ (s : Total). s.low +ℤ s.least) is))))
    (ap Number (to_z-of_z w128 c.sum_of-high.result highs ∙ (c.sum_of-high.ensures (length blocks) few (subst (IsWithinBlocks (length blocks)) (sym to) sums.high.within) ∙ (to ∙ ap (λ (s : Total). s.high +ℤ s.most) is))))
