use Rattle.std.proofs.Common.{◌≡◌, ◌⊎◌, ◌<◌, ℕ, [], false, true, length, slice_index_or}
use Rattle.join_access.specs.Listing.{names_of}
use Rattle.row_lists.specs.Loose.{IsLooseAt}
use Rattle.row_witnesses.specs.Columns.{place_at}
use Rattle.repair_clauses.proofs.avoiding.mark_witnesses.Given as goal

-- each mark was set, or is that of a witness whose row is loose
abbrev pub invariant-loop-at : goal.invariant-loop-at
invariant-loop-at l = record {
  size : length l.marks.items ≡ length l.witnesses;
  marks : (i : ℕ) → i < length l.witnesses → slice_index_or l.marks.items i false ≡ true →
      (slice_index_or l.fn.marks.items i false ≡ true) ⊎ IsLooseAt l.places l.loose (place_at (slice_index_or (names_of l.witnesses) i []) l.atom);
}
