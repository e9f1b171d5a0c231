use Rattle.std.proofs.Common.{◌≡◌, ◌≤◌, Bool, List, map}
use Rattle.std.proofs.lemmas.List.Filters.{FiltersInPlace}
use Rattle.cqa_value.specs.declared.value.Value.{Value as Cell}
use Rattle.row_pieces.specs.Marks.{row_mark}
use Rattle.row_pieces.proofs.keep.keep_told.Given as goal

-- the rows so far that are told to stay stand at the front
abbrev pub invariant-loop-at : goal.invariant-loop-at
invariant-loop-at l = record {
  count : l.kept ≤ l.at;
  marked : l.marks ≡ map row_mark l.rows;
  kept : (p : List Cell → Bool) → l.stays ≡ map p l.initial.rows → FiltersInPlace p l.initial.rows l.rows l.kept l.at;
}
