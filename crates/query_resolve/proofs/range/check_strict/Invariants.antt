use Rattle.query_resolve.specs.Checks.{lax_fault}
use Rattle.query_resolve.proofs.Members.{Passed}
use Rattle.query_resolve.proofs.range.check_strict.Given as goal

-- at most one of the tables so far isn't strict
abbrev pub invariant-loop-at : goal.invariant-loop-at
invariant-loop-at l = Passed (lax_fault l.db) l.names l.at
