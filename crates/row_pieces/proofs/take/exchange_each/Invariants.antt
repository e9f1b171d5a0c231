use Rattle.std.proofs.Common.{◌≡◌, ◌++◌, length, take, drop}
use Rattle.row_pieces.specs.Joined.{joined}
use Rattle.row_pieces.proofs.take.exchange_each.Given as goal

-- the pieces so far have the first of the other rows, and these are given; the pieces behind are as they were
abbrev pub invariant-loop-at : goal.invariant-loop-at
invariant-loop-at l = record {
  start : l.start ≡ length (joined (take l.at l.initial.pieces));
  held : joined (take l.at l.pieces) ≡ take l.start l.initial.rows;
  given : l.rows ≡ joined (take l.at l.initial.pieces) ++ drop l.start l.initial.rows;
  rest : drop l.at l.pieces ≡ drop l.at l.initial.pieces;
}
