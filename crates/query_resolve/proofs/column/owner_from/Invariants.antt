use Rattle.std.proofs.Common.{◌≡◌, drop}
use Rattle.query_resolve.specs.Names.{atom_scope, having}
use Rattle.query_resolve.proofs.column.owner_from.Given as goal

-- the tables so far don't have the column
abbrev pub invariant-loop-at : goal.invariant-loop-at
invariant-loop-at l = having l.name (drop l.start (atom_scope l.db l.atoms)) ≡ having l.name (drop l.at (atom_scope l.db l.atoms))
