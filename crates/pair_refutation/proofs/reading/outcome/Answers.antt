use Rattle.std.proofs.Common.{◌+◌, subst, sym}
use Rattle.weak_pairs.specs.Layout.{AreRows}
use Rattle.pair_refutation.specs.Edges.{IsTwoEnded}
use Rattle.pair_refutation.proofs.Assembling.{rows-are, ends-are}
use Rattle.pair_refutation.proofs.reading.outcome.Goals as goal

pub edge_ends-requires-clause-rows : goal.edge_ends-requires-clause-rows
edge_ends-requires-clause-rows c =
    subst (λ z. AreRows z c.deref-2.result.now (c.args.cnf.now.vars + 1)) (sym c.deref.ensures.value)
    (subst (λ z. AreRows c.args.graph.now.start.items z (c.args.cnf.now.vars + 1)) (sym c.deref-2.ensures.value) (rows-are c.args.cnf.now c.args.graph.now c.requires))

pub edge_ends-requires-clause-two : goal.edge_ends-requires-clause-two
edge_ends-requires-clause-two c =
    subst (λ z. IsTwoEnded z c.deref-2.result.now) (sym c.deref.ensures.value)
    (subst (λ z. IsTwoEnded c.args.graph.now.start.items z) (sym c.deref-2.ensures.value) (ends-are c.args.cnf.now c.args.graph.now c.requires))
