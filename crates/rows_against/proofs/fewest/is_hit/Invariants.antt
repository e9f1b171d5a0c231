use Rattle.std.proofs.Common.{◌≡◌, ◌<◌, ℕ, [], None, Some, get_or, true, false}
use Rattle.rows_against.proofs.fewest.is_hit.Given as goal

-- none of the atoms so far has a number that is marked
abbrev pub invariant-loop-atom : goal.invariant-loop-atom
invariant-loop-atom l = (F number : ℕ) → F < l.atom-index → get_or (get_or l.hits F []) l.witness None ≡ Some number → get_or l.marks number false ≡ true → ⊥
