use Rattle.std.proofs.Common.{sym, subst, arith}
use Rattle.pair_refutation.specs.Refuting.{IsLastOf, ArePairHints}
use Rattle.pair_refutation.proofs.Chaining.{hints-more}
use Rattle.pair_refutation.proofs.refuting.pair_hints.Goals as goal

pub chain-preserved : goal.chain-preserved
chain-preserved c =
    let pairs = c.args.graph.now.pairs.items in
    let x = c.args.x in
    let blocks = c.args.graph.now.blocks in
    let n = c.chain.invariant.0 in
    let k = c.in-Some.place in
    let followed = c.chain.invariant.1 in
    let last = subst (λ o. IsLastOf pairs x n o) c.in-Some.is followed.last in (
      k,
      record { within = (let a = last.0 in let b = followed.within in omega (arith, a, b)); last = subst (λ z. IsLastOf z x k c.before-at.result) c.deref.ensures.value c.before-at.ensures },
      subst (λ z. ArePairHints pairs blocks x k z) (sym c.in_ok-push_hint.ensures) (hints-more pairs blocks x n k c.chain.hints.items followed.within last c.chain.invariant.2),
    )
