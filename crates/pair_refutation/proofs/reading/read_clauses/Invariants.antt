use Rattle.std.proofs.Common.{◌≡◌, take}
use Rattle.cnf_form.specs.Literals.{literals}
use Rattle.weak_pairs.specs.Starts.{starts_from}
use Rattle.pair_refutation.specs.Graph.{all_of, blocks_in}
use Rattle.pair_refutation.proofs.reading.read_clauses.Given as goal

abbrev pub invariant-loop-clause : goal.invariant-loop-clause
invariant-loop-clause l = record {
  var : l.var.items ≡ all_of (blocks_in (literals (take l.clause-index l.clauses)));
  start : l.start.items ≡ starts_from 0 (blocks_in (literals (take l.clause-index l.clauses)));
}
