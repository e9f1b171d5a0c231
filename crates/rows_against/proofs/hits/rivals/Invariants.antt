use Rattle.std.proofs.Common.{◌≡◌, ◌<◌, ℕ, length, None, get_or}
use Rattle.rows_against.specs.Hits.{IsHitBy}
use Rattle.rows_against.specs.Numbers.{row_name}
use Rattle.rows_against.proofs.hits.rivals.Given as goal

-- those of the places so far
abbrev pub invariant-loop-place : goal.invariant-loop-place
invariant-loop-place l = record {
  size : length l.found.items ≡ l.place-index;
  rivals : (i : ℕ) → i < l.place-index → IsHitBy l.witnesses.bound.now.db.now l.names (row_name l.witnesses.bound.now.query.now l.at (get_or l.places i 0)) (get_or l.found.items i None);
}
