use Rattle.pair_refutation.proofs.Collecting.{pairs-next}
use Rattle.pair_refutation.proofs.graph.read_pairs.Goals as goal

pub loop-clause-preserved : goal.loop-clause-preserved
loop-clause-preserved c = pairs-next c.args.clauses.now c.loop-clause.clause-index c.clause-item.result c.loop-clause-test.true c.clause-item.is c.loop-clause.pairs.items c.append_pair.new.pairs.items c.loop-clause.invariant c.in_ok-append_pair.ensures
