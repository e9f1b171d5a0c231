use Rattle.std.proofs.Common.{◌≡◌, List, length, drop}
use Rattle.cqa_value.specs.declared.value.Value.{Value as Cell}
use Rattle.row_pieces.specs.Inserted.{with_items, AreRising}
use Rattle.row_pieces.specs.Joined.{joined}
use Rattle.row_pieces.proofs.put.take_back.Given as goal

-- the rows at the places so far are out again
abbrev pub invariant-loop-place : goal.invariant-loop-place
invariant-loop-place l = (rows items : List (List Cell)) → joined l.initial.pieces ≡ with_items items rows l.places → length rows ≡ length l.places → AreRising 0 (length items) l.places → joined l.pieces ≡ with_items items (drop l.place-index rows) (drop l.place-index l.places)
