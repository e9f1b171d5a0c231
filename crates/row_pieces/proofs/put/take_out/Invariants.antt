use Rattle.std.proofs.Common.{◌≡◌, ◌+◌, length, take}
use Rattle.row_pieces.specs.Joined.{joined}
use Rattle.row_pieces.proofs.put.take_out.Given as goal

-- so many rows stand before the piece, and nothing has changed
abbrev pub invariant-loop-at : goal.invariant-loop-at
invariant-loop-at l = record {
  left : l.place ≡ length (joined (take l.at l.pieces)) + l.left;
  same : l.pieces ≡ l.initial.pieces;
}
