use Rattle.std.proofs.Common.{◌≡◌, ◌<◌, ◌≤◌, ℕ, length, take, drop, slice_index}
use Rattle.row_pieces.specs.Inserted.{with_items}
use Rattle.row_pieces.specs.Joined.{joined, ArePlaced, HasPlacesTo}
use Rattle.row_pieces.proofs.put.put_each.Given as goal

-- the last rows so far are put in, and the places of those that are left are among the first pieces
abbrev pub invariant-loop-row : goal.invariant-loop-row
invariant-loop-row l = record {
  few : length l.rows.items ≤ length l.initial.rows.items;
  taken : l.rows.items ≡ take (length l.rows.items) l.initial.rows.items;
  put : joined l.pieces.items ≡ with_items (joined l.initial.pieces.items) (drop (length l.rows.items) l.initial.rows.items) (drop (length l.rows.items) l.places);
  within : l.end ≤ length l.pieces.items;
  numbered : ArePlaced 0 (take l.end l.pieces.items);
  opened : (k : ℕ) → k < length l.rows.items → HasPlacesTo l.pieces.items l.end (slice_index l.places k);
}

abbrev pub decreases-loop-row : goal.decreases-loop-row
decreases-loop-row l = length l.rows.items
