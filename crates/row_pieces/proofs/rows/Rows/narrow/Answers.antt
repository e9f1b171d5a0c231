use Rattle.std.proofs.Common.{◌≡◌, true, false, arith, sym, subst, ◌∙◌}
use Rattle.std.specs.List.{HoldsAt}
use Rattle.std.proofs.lemmas.Option.{get_or_from_slice_get}
use borrow.Author.Rules.{of_calls}
use Rattle.row_pieces.proofs.Answering.{answers}
use Rattle.row_pieces.proofs.Halving.{front_passes, back_fails}
use Rattle.row_pieces.proofs.rows.Rows.narrow.Goals as goal

pub loop-first-preserved-then-passes : goal.loop-first-preserved-then-passes
loop-first-preserved-then-passes g c =
    let at = c.in-Some.at in
    let early = c.if-high-at.false in
    let within = c.loop-first.invariant.within in
    record {
      order = omega (arith, early);
      within = within;
      callable = search of_calls;
      halves = λ p k. (let i = c.loop-first.invariant.halves p k in
          let n = answers p i.0 c.passes.ensures in
          let there : HoldsAt (λ y. p y ≡ true) c.args.self.now at = λ d. subst (λ y. p y ≡ true) (sym (get_or_from_slice_get c.args.self.now at c.in-Some.row.now d c.in-Some.ensures)) (sym n.1 ∙ c.if-passes.true) in
          (n.0, λ s. (front_passes p c.args.self.now at s (omega (arith, early, within)) there, (i.1 s).1)));
    }

pub loop-first-preserved : goal.loop-first-preserved
loop-first-preserved g c =
    let at = c.in-Some.at in
    let early = c.if-high-at.false in
    let late = c.if-at-low.false in
    let within = c.loop-first.invariant.within in
    record {
      order = omega (arith, late);
      within = omega (arith, early, within);
      callable = search of_calls;
      halves = λ p k. (let i = c.loop-first.invariant.halves p k in
          let n = answers p i.0 c.passes.ensures in
          let there : HoldsAt (λ y. p y ≡ false) c.args.self.now at = λ d. subst (λ y. p y ≡ false) (sym (get_or_from_slice_get c.args.self.now at c.in-Some.row.now d c.in-Some.ensures)) (sym n.1 ∙ c.if-passes.false) in
          (n.0, λ s. ((i.1 s).0, back_fails p c.args.self.now at s (omega (arith, early, within)) there)));
    }
