use Rattle.std.proofs.Common.{subst, sym}
use Rattle.cnf_form.specs.Literals.{literals}
use Rattle.pair_refutation.specs.Formulas.{AreGraphClauses, AreReadTo}
use Rattle.pair_refutation.proofs.reading.read.Goals as goal

pub read_clauses-requires : goal.read_clauses-requires
read_clauses-requires c = subst (λ z. AreGraphClauses c.args.cnf.now.vars (literals z)) (sym c.as_slice-clauses.ensures) c.requires

pub returns : goal.returns
returns c = subst (λ z. AreReadTo c.args.cnf.now.vars (literals z) c.in_ok-graph.graph) c.as_slice-clauses.ensures c.in_ok-graph.ensures
