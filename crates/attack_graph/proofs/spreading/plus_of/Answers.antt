use Rattle.attack_graph.proofs.SpreadSteps.{plus-set}
use Rattle.attack_graph.proofs.spreading.plus_of.Goals as goal

pub returns : goal.returns
returns c = plus-set c.args.named.now.query.now c.args.named.now.view c.args.from c.key_set-start.result c.closure.result c.counted-atoms.result c.key_set-start.ensures.is
    c.counted-atoms.ensures c.closure.ensures.is
