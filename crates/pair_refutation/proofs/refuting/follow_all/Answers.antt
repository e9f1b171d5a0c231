use Rattle.std.proofs.Common.{length, refl, arith}
use Rattle.pair_refutation.proofs.Logging.{follow-consecutive}
use Rattle.pair_refutation.proofs.Losing.{end-refutes}
use Rattle.pair_refutation.proofs.refuting.follow_all.Goals as goal

pub returns-clause-refutes : goal.returns-clause-refutes
returns-clause-refutes c =
    let order = c.args.order.now in
    end-refutes c.args.cnf.now c.args.graph.now c.requires.chained.read c.shorten.new.steps.items c.loop-place.lost c.in_ok-shorten.ensures.so_far order (length order) (λ q l. c.requires.blocked.forced q l)
    (λ q b l a. c.loop-place.invariant.marked q b (let t = c.loop-place-test.false in omega (arith, l, t)) a) c.args.root c.in_ok-shorten.field-0 refl c.requires.blocked.stuck c.in_ok-shorten.ensures.left

pub returns-clause-ids : goal.returns-clause-ids
returns-clause-ids c = follow-consecutive c.args.cnf.now c.shorten.new.steps.items c.in_ok-shorten.ensures.so_far.follow
