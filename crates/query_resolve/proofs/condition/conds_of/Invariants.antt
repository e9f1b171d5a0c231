use Rattle.query_resolve.specs.Checks.{cond_fault, fault_by_number}
use Rattle.query_resolve.specs.Resolved.{IsCondOf}
use Rattle.query_resolve.proofs.Members.{SoFar}
use Rattle.query_resolve.proofs.condition.conds_of.Given as goal

-- the conditions so far are resolved
abbrev pub invariant-loop-at : goal.invariant-loop-at
invariant-loop-at l = SoFar (fault_by_number (cond_fault l.db l.names)) (IsCondOf l.db l.names) l.conds l.at l.resolved.items
