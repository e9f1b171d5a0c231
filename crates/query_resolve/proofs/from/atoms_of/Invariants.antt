use Rattle.query_resolve.specs.Checks.{from_fault}
use Rattle.query_resolve.specs.Resolved.{IsAtomOf}
use Rattle.query_resolve.proofs.Members.{SoFar}
use Rattle.query_resolve.proofs.from.atoms_of.Given as goal

-- the names so far are those of different tables
abbrev pub invariant-loop-at : goal.invariant-loop-at
invariant-loop-at l = SoFar (from_fault l.db) (IsAtomOf l.db) l.names l.at l.atoms.items
