use Rattle.std.proofs.Common.{Contains, sym, ◌∙◌, below_more, arith, refl, true≢false}
use Rattle.rewrite_check.proofs.Places.{has}
use Rattle.rewrite_check.proofs.order.has_each.Goals as goal

pub loop-atom-preserved : goal.loop-atom-preserved
loop-atom-preserved c =
    below_more (λ k. Contains c.args.order.now k) c.loop-atom.atom-counter c.loop-atom.invariant ((has c.args.order.now c.loop-atom.atom-counter c.contains.result c.contains.ensures.value).0 c.if-not-contains.false)

pub returns-then-not-contains : goal.returns-then-not-contains
returns-then-not-contains c =
    let at = c.loop-atom.atom-counter in
    (λ t. absurd (true≢false (sym t)), λ all. absurd (true≢false (sym ((has c.args.order.now at c.contains.result c.contains.ensures.value).1 (all at c.loop-atom-test.true)) ∙ c.if-not-contains.true)))

pub returns : goal.returns
returns c = (λ t k below. c.loop-atom.invariant k (omega (arith, below, c.loop-atom-test.false)), λ all. refl)
