use Rattle.std.proofs.Common.{◌≡◌, ◌≤◌, ◌<◌, ◌⊎◌, ℕ, [], None, Some, get_or}
use Rattle.rows_against.specs.Fewest.{HasHit}
use Rattle.rows_against.proofs.fewest.last_hit.Given as goal

-- the greatest of the atoms so far
abbrev pub invariant-loop-atom : goal.invariant-loop-atom
invariant-loop-atom l = record {
  up : (F number : ℕ) → F < l.atom-index → get_or (get_or l.hits F []) l.witness None ≡ Some number → number ≤ l.last;
  some : (l.last ≡ 0) ⊎ HasHit l.hits l.witness l.last;
}
