use Rattle.std.proofs.Common.{arith, subst}
use Rattle.weak_pairs.specs.States.{IsPeeledTo}
use Rattle.weak_pairs.proofs.peel.Peeling.finish.Goals as goal

pub serve-requires-clause-settled : goal.serve-requires-clause-settled
serve-requires-clause-settled c = λ u b.
    subst (IsPeeledTo c.args.graph.now c.peel.new.self c.args.graph.now.blocks) c.in_default.is c.in_ok-root.ensures.found u (let e = c.args.graph.now.counted in omega (arith, b, e))
