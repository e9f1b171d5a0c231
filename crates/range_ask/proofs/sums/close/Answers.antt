use Rattle.std.proofs.Common.{◌≡◌, rules, arith, length, ◌∙◌, ap, subst}
use Rattle.std.specs.Prelude.{◌+ℤ◌}
use mir.Val.{SFits}
use mir.Syntax.{w64}
use Rattle.std.proofs.lemmas.Int.{to_z-of_z}
use Rattle.range_ask.specs.Picks.{IsCheapest, IsDearest}
use Rattle.range_ask.specs.Walking.{IsWithinBlocks}
use Rattle.range_ask.proofs.Chosen.{cheapest, dearest}
use Rattle.range_ask.proofs.Walked.{side-more, within-one, chosen-length}
use Rattle.range_ask.proofs.sums.close.Goals as goal

pub returns : goal.returns
returns c =
    let low : SFits w64 c.args.held.least.worth = search rules in
    let high : SFits w64 c.args.held.most.worth = search rules in
    let number : c.len.result ≡ length c.args.sides.now.low.places.items = omega (arith, c.len.ensures, c.args.sides.now.low.places.ok) in
    λ f rows front block later next best sides. (
      side-more (IsCheapest f) f rows front block later c.args.held.start next c.args.held.least.at best.0.there c.args.sides.now.low c.take.new.side sides.0 (cheapest f block c.args.held.least best.0)
          (subst (IsWithinBlocks 1) best.0.is (within-one c.args.held.least.worth low)) c.in_ok-take.ensures.places
          (c.in_ok-take.ensures.total ∙ ap (λ n. c.args.sides.now.low.total +ℤ n) (to_z-of_z w64 c.args.held.least.worth low ∙ best.0.is)),
      side-more (IsDearest f) f rows front block later c.args.held.start next c.args.held.most.at best.1.there c.args.sides.now.high c.take-2.new.side sides.1 (dearest f block c.args.held.most best.1)
          (subst (IsWithinBlocks 1) best.1.is (within-one c.args.held.most.worth high)) c.in_ok-take-2.ensures.places
          (c.in_ok-take-2.ensures.total ∙ ap (λ n. c.args.sides.now.high.total +ℤ n) (to_z-of_z w64 c.args.held.most.worth high ∙ best.1.is)),
      c.in_ok-note.ensures front block sides.2 (number ∙ chosen-length (IsCheapest f) rows front c.args.sides.now.low.places.items sides.0.chosen) best.2,
    )
