use Rattle.weak_pairs.proofs.Peeling.{has-taken}
use Rattle.weak_pairs.proofs.matching.Matching.take.Goals as goal

pub returns : goal.returns
returns c =
    let g = c.args.graph.now in
    let m = c.args.self.now in
    has-taken g.start.now g.edge.now g.ends.now g.laid m.own.items m.taken.items c.requires.matching c.args.at c.args.row c.requires.block c.requires.isopen c.requires.row c.requires.free c.other.result c.other.ensures
