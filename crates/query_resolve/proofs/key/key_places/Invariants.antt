use Rattle.std.proofs.Common.{◌≡◌, Some, ℕ, List}
use Rattle.query_resolve.specs.Names.{column_named}
use Rattle.query_resolve.specs.Checks.{key_fault}
use Rattle.query_resolve.proofs.Members.{SoFar}
use Rattle.query_resolve.proofs.key.key_places.Given as goal

-- the names so far are different columns
abbrev pub invariant-loop-at : goal.invariant-loop-at
invariant-loop-at l = SoFar (key_fault l.columns) (λ (name : List ℕ) (place : ℕ). column_named l.columns name ≡ Some place) l.key l.at l.places.items
