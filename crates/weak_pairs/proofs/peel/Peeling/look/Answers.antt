use Rattle.weak_pairs.proofs.Peeling.{watch-seen}
use Rattle.weak_pairs.proofs.peel.Peeling.look.Goals as goal

pub scan-init : goal.scan-init
scan-init c = watch-seen c.args.graph.now c.args.self.now c.requires.peeling c.args.at c.requires.block c.index-watch.result.now c.index-watch.ensures
