use Rattle.std.proofs.Common.{arith, refl}
use Rattle.weak_pairs.proofs.Picking.{same-all, same-at}
use Rattle.weak_pairs.proofs.picked.have_same.Goals as goal

pub returns-then-not-agrees : goal.returns-then-not-agrees
returns-then-not-agrees c =
    (λ f. absurd (cc f), λ same. c.if-not-agrees.ensures.1 (same-at c.args.left.now c.args.right.now c.args.a.now c.args.b.now c.if-right-count.false same c.loop-at.at c.loop-at-test.true))

pub returns : goal.returns
returns c =
    let end = c.loop-at-test.false in
    (λ _. same-all c.args.left.now c.args.right.now c.args.a.now c.args.b.now c.if-right-count.false (λ k l. c.loop-at.invariant k (omega (arith, l, end))), λ _. refl)
