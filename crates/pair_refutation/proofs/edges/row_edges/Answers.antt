use Rattle.std.proofs.Common.{sym, subst, arith}
use Rattle.pair_refutation.specs.Edges.{AreVarEdges}
use Rattle.pair_refutation.proofs.edges.row_edges.Goals as goal

pub edges_of-requires : goal.edges_of-requires
edges_of-requires c = λ x m.
    let ve = subst (λ z. AreVarEdges c.args.pairs.now c.args.vars z) (sym c.deref.ensures.value) c.in_ok-of_var.ensures in
    let s = c.requires.small x m in let z = ve.size in omega (arith, s, z)
