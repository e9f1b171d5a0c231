use Rattle.attack_graph.proofs.SpreadSteps.{weak-set}
use Rattle.attack_graph.proofs.building.derived_from.Goals as goal

pub returns : goal.returns
returns c = weak-set c.args.named.now.query.now c.args.named.now.view c.args.from c.key_set-start.result c.closure.result c.left-atoms.result c.key_set-start.ensures.is c.left-atoms.ensures c.closure.ensures.is
