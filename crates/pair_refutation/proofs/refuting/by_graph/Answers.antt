use Rattle.std.proofs.Common.{subst}
use Rattle.weak_pairs.specs.Peeling.{IsOutcome}
use Rattle.pair_refutation.proofs.Assembling.{chosen-not}
use Rattle.pair_refutation.proofs.refuting.by_graph.Goals as goal

pub unreachable-requires : goal.unreachable-requires
unreachable-requires c =
    chosen-not c.args.cnf.now c.args.graph.now c.requires.read c.in-Chosen.field-0.items (subst (IsOutcome c.args.graph.now.start.items c.args.graph.now.edge.items) c.in-Chosen.is c.in_ok-outcome.ensures) c.requires.none
