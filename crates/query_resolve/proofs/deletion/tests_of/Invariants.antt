use Rattle.query_resolve.specs.Checks.{test_fault, fault_by_number}
use Rattle.query_resolve.specs.Resolved.{IsTestOf}
use Rattle.query_resolve.proofs.Members.{SoFar}
use Rattle.query_resolve.proofs.deletion.tests_of.Given as goal

-- the tests so far are resolved
abbrev pub invariant-loop-at : goal.invariant-loop-at
invariant-loop-at l = SoFar (fault_by_number (test_fault l.columns)) (IsTestOf l.columns) l.tests l.at l.resolved.items
