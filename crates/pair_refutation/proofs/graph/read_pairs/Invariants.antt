use Rattle.std.proofs.Common.{◌≡◌, take}
use Rattle.cnf_form.specs.Literals.{literals}
use Rattle.pair_refutation.specs.Graph.{pairs_in}
use Rattle.pair_refutation.proofs.graph.read_pairs.Given as goal

abbrev pub invariant-loop-clause : goal.invariant-loop-clause
invariant-loop-clause l = l.pairs.items ≡ pairs_in (literals (take l.clause-index l.clauses))
