use Rattle.std.proofs.Common.{subst, sym, arith}
use Rattle.query_strategy.specs.Apart.{IsPartAt, HasLoose}
use Rattle.query_strategy.proofs.Places.{one_query, passed}
use Rattle.query_strategy.proofs.shared.next_with.Goals as goal

pub returns-then-has_loose-clause-some : goal.returns-then-has_loose-clause-some
returns-then-has_loose-clause-some c = (omega (arith, c.loop-second.auto.second), (c.index-parts-second.result, (c.loop-second-test.true, sym c.index-parts-second.is), c.has_loose.ensures.0 c.if-has_loose.true))

pub loop-second-preserved : goal.loop-second-preserved
loop-second-preserved c j h = passed c.loop-second.second j (c.loop-second.invariant j h) (λ e.
    let same = one_query c.args.parts.now c.loop-second.second h.1.0 c.index-parts-second.result (subst (λ k. IsPartAt c.args.parts.now k h.1.0) (sym e) h.1.1) (c.loop-second-test.true, sym c.index-parts-second.is) in
    let loose = c.has_loose.ensures.1 (subst (λ q. HasLoose q c.args.table) same h.1.2) in
    let not = c.if-has_loose.false in
    absurd (cc))

pub returns-clause-none : goal.returns-clause-none
returns-clause-none c e j h = let l = c.loop-second.invariant j h in absurd (omega (arith, l, c.loop-second-test.false, h.1.1.0))
