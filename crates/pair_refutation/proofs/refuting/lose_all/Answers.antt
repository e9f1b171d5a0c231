use Rattle.std.proofs.Common.{subst}
use Rattle.pair_refutation.specs.Refuting.{IsLastOf}
use Rattle.pair_refutation.proofs.Losing.{IsLosing, other-small, other-met, losing-more, losing-all}
use Rattle.pair_refutation.proofs.refuting.lose_all.Goals as goal

pub lose-requires-clause-there : goal.lose-requires-clause-there
lose-requires-clause-there c =
    other-small c.args.cnf.now c.args.graph.now c.requires.chained.read c.args.x c.args.last c.args.lost.now c.chain.invariant.0 c.in-Some.place c.chain.at c.in-Some.is c.chain.steps.items c.chain.lost c.chain.invariant.1
    c.index.result.now c.index.ensures c.other-met.result c.other-met.ensures

pub lose-requires-clause-met : goal.lose-requires-clause-met
lose-requires-clause-met c =
    other-met c.args.cnf.now c.args.graph.now c.requires.chained.read c.args.x c.args.last c.args.lost.now c.chain.invariant.0 c.in-Some.place c.chain.at c.in-Some.is c.chain.steps.items c.chain.lost c.chain.invariant.1
    c.index.result.now c.index.ensures c.other-met.result c.other-met.ensures

pub chain-preserved : goal.chain-preserved
chain-preserved c =
    let k = c.in-Some.place in
    let e = c.in_ok-lose.ensures in (
      k,
      losing-more c.args.cnf.now c.args.graph.now c.requires.chained.read c.args.x c.args.last c.args.lost.now c.chain.invariant.0 k c.chain.at c.in-Some.is c.chain.steps.items c.chain.lost c.chain.invariant.1
          c.index.result.now c.index.ensures c.other-met.result c.other-met.ensures c.lose.new.steps.items c.lose.new.lost e.so_far e.lost e.stay e.keeps
          c.before-at.result (subst (λ z. IsLastOf z c.args.x k c.before-at.result) c.deref.ensures.value c.before-at.ensures),
    )

pub returns-clause-lost : goal.returns-clause-lost
returns-clause-lost c =
    let first = c.args.lost.now in
    let n = c.chain.invariant.0 in
    losing-all c.args.cnf.now c.args.graph.now c.requires.chained.read c.args.x c.args.last first n c.chain.steps.items c.chain.lost
    (subst (λ o. IsLosing c.args.cnf.now c.args.graph.now c.args.x c.args.last first n o c.chain.steps.items c.chain.lost) c.in_default.is c.chain.invariant.1)
