use Rattle.std.proofs.Common.{arith, subst}
use Rattle.weak_pairs.specs.States.{IsPeeledTo}
use Rattle.weak_pairs.proofs.Choosing.{chosen-there}
use Rattle.weak_pairs.proofs.outcome.is_blocked.Goals as goal

pub returns-in-None : goal.returns-in-None
returns-in-None c =
    let g = c.args.graph.now in
    let m = c.peel-found.new.self.matching in
    chosen-there g.start.now g.edge.now g.ends.now g.laid m.own.items m.taken.items c.in_ok-found.ensures.peeling.state
    (λ u b. subst (IsPeeledTo g c.peel-found.new.self g.blocks) c.in-None.is c.in_ok-found.ensures.found u (let e = g.counted in omega (arith, b, e)))
