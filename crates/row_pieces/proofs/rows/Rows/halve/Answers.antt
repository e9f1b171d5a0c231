use Rattle.std.proofs.Common.{◌≡◌, ◌+◌, ◌-◌, ◌/◌, true, false, arith, sym, subst, ◌∙◌}
use Rattle.std.specs.List.{HoldsAt}
use borrow.Author.Rules.{of_calls}
use Rattle.row_pieces.proofs.Answering.{answers}
use Rattle.row_pieces.proofs.Halving.{front_passes, back_fails, seen_near}
use Rattle.row_pieces.proofs.rows.Rows.halve.Goals as goal

pub loop-low-preserved-then-passes : goal.loop-low-preserved-then-passes
loop-low-preserved-then-passes g c =
    let middle = c.loop-low.low + (c.loop-low.high - c.loop-low.low) / 2 in
    let inside = c.loop-low-test.true in
    let begun = c.loop-low.invariant.begun in
    let within = c.loop-low.invariant.within in
    let fits = c.requires.within in
    record {
      begun = omega (arith, begun, inside);
      order = omega (arith, inside);
      within = within;
      callable = search of_calls;
      halves = λ p k. (let i = c.loop-low.invariant.halves p k in
          let n = answers p i.0 c.passes.ensures in
          let there : HoldsAt (λ y. p y ≡ true) c.args.self.now middle = λ d. subst (λ y. p y ≡ true) (sym (seen_near c.args.self.now c.behind-near.result c.args.from middle c.get.result.now d c.behind-near.ensures (omega (arith, begun)) c.get.ensures)) (sym n.1 ∙ c.if-passes.true) in
          (n.0, λ s e f. (front_passes p c.args.self.now middle s (omega (arith, inside, within, fits)) there, (i.1 s e f).1)));
    }

pub loop-low-preserved : goal.loop-low-preserved
loop-low-preserved g c =
    let middle = c.loop-low.low + (c.loop-low.high - c.loop-low.low) / 2 in
    let inside = c.loop-low-test.true in
    let begun = c.loop-low.invariant.begun in
    let within = c.loop-low.invariant.within in
    let fits = c.requires.within in
    record {
      begun = omega (arith, begun, inside);
      order = omega (arith, inside);
      within = omega (arith, inside, within);
      callable = search of_calls;
      halves = λ p k. (let i = c.loop-low.invariant.halves p k in
          let n = answers p i.0 c.passes.ensures in
          let there : HoldsAt (λ y. p y ≡ false) c.args.self.now middle = λ d. subst (λ y. p y ≡ false) (sym (seen_near c.args.self.now c.behind-near.result c.args.from middle c.get.result.now d c.behind-near.ensures (omega (arith, begun)) c.get.ensures)) (sym n.1 ∙ c.if-passes.false) in
          (n.0, λ s e f. ((i.1 s e f).0, back_fails p c.args.self.now middle s (omega (arith, inside, within, fits)) there)));
    }
