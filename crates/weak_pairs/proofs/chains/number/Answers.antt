use Rattle.std.proofs.Common.{◌≡◌, ◌+◌, ◌-◌, inr, refl, arith}
use Rattle.weak_pairs.specs.Digests.{lists_in}
use Rattle.weak_pairs.proofs.Chaining.{behind-first, behind-more}
use Rattle.weak_pairs.proofs.chains.number.Goals as goal

pub back-init : goal.back-init
back-init c = (c.requires.chained, behind-first (lists_in c.args.lists.now.form) c.args.before.now c.requires.chained c.args.at c.requires.there)

pub back-preserved : goal.back-preserved
back-preserved c =
    let some = c.back-test.true in
    let last : c.back.left ≡ c.back.left - 1 + 1 = omega (arith, some) in
    let i = c.back.invariant in
    (i.0, behind-more (lists_in c.args.lists.now.form) c.args.before.now i.0 c.args.at c.requires.there c.back.left i.1 (c.back.left - 1) last (λ have. cc (c.if-have_one.ensures.1 have)))

pub returns : goal.returns
returns c = inr (refl, λ q l have. let end = c.back-test.false in c.back.invariant.1.none q (omega (arith, end)) l have)
