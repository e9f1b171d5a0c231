use Rattle.std.proofs.Common.{subst, sym, ◌∙◌, arith}
use Rattle.std.proofs.lemmas.Option.{same_Some, none-some}
use Rattle.weak_pairs.specs.States.{IsLeft}
use Rattle.weak_pairs.proofs.Peeling.{watch-there, is-stuck, forced-taken}
use Rattle.weak_pairs.proofs.peel.Peeling.force.Goals as goal

pub index_mut-requires : goal.index_mut-requires
index_mut-requires c = let h = watch-there c.args.graph.now c.args.self.now c.requires.peeling c.args.at c.requires.block in omega (arith, h)

pub returns-in-Zero-clause-step : goal.returns-in-Zero-clause-step
returns-in-Zero-clause-step c =
    let g = c.args.graph.now in
    let p = c.args.self.now in
    is-stuck g.start.now g.edge.now g.ends.now g.laid p.matching.own.items p.matching.taken.items p.watch.items p.order.items c.requires.peeling c.args.at c.requires.block c.requires.isopen
    (subst (IsLeft g p.matching c.args.at) c.in-Zero.is c.look-left.ensures.left)

pub returns-in-None-clause-peeling : goal.returns-in-None-clause-peeling
returns-in-None-clause-peeling c =
    forced-taken c.args.graph.now c.args.self.now c.requires.peeling c.args.at c.requires.block c.requires.isopen c.look-left.result.1 c.look-left.ensures.seen c.take.new.self c.in-One.row c.take.result c.push.new.self.items
    (subst (IsLeft c.args.graph.now c.args.self.now.matching c.args.at) c.in-One.is c.look-left.ensures.left) c.take.ensures c.in_ok-push-in-One.ensures.items

pub returns-in-None-clause-step : goal.returns-in-None-clause-step
returns-in-None-clause-step c u = c.take.ensures.settled u (λ d. none-some u (sym c.in-None.is ∙ d))

pub returns-in-Some-clause-peeling : goal.returns-in-Some-clause-peeling
returns-in-Some-clause-peeling c =
    forced-taken c.args.graph.now c.args.self.now c.requires.peeling c.args.at c.requires.block c.requires.isopen c.look-left.result.1 c.look-left.ensures.seen c.take.new.self c.in-One.row c.take.result c.push.new.self.items
    (subst (IsLeft c.args.graph.now c.args.self.now.matching c.args.at) c.in-One.is c.look-left.ensures.left) c.take.ensures c.in_ok-push-in-One.ensures.items

pub returns-in-Some-clause-step : goal.returns-in-Some-clause-step
returns-in-Some-clause-step c = (
  c.take.ensures.block c.in-Some.next c.in-Some.is,
  c.take.ensures.fewer,
  λ u ne. c.take.ensures.settled u (λ d. ne (same_Some u c.in-Some.next (sym d ∙ c.in-Some.is))),
)
