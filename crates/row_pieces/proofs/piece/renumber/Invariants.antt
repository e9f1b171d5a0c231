use Rattle.std.proofs.Common.{◌≡◌, length, take}
use Rattle.row_pieces.specs.Joined.{joined, ArePlaced}
use Rattle.row_pieces.proofs.piece.renumber.Given as goal

-- the pieces so far are numbered, and the rows stay
abbrev pub invariant-loop-at : goal.invariant-loop-at
invariant-loop-at l = record {
  start : l.start ≡ length (joined (take l.at l.pieces));
  numbered : ArePlaced 0 (take l.at l.pieces);
  rows : joined l.pieces ≡ joined l.initial.pieces;
}
