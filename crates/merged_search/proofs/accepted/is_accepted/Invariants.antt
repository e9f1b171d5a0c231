use Rattle.std.proofs.Common.{take}
use Rattle.merged_search.specs.Clauses.{RisesFrom}
use Rattle.merged_search.proofs.Walks.{Each}
use Rattle.merged_search.proofs.accepted.is_accepted.Given as goal

abbrev pub invariant-loop-clause : goal.invariant-loop-clause
invariant-loop-clause l = Each (RisesFrom 0 l.cnf.vars) (take l.clause-index l.clause-items)
