use Rattle.std.proofs.Common.{◌≡◌, ◌++◌, length, take, drop}
use Rattle.row_pieces.specs.Joined.{joined}
use Rattle.row_pieces.proofs.take.give_each.Given as goal

-- the rows of the first pieces stand behind the others, and the further pieces are as before
abbrev pub invariant-loop-at : goal.invariant-loop-at
invariant-loop-at l = (l.rows.items ≡ l.fn.rows.items ++ joined (take l.at l.fn.pieces)) × (length l.pieces ≡ length l.fn.pieces) × (drop l.at l.pieces ≡ drop l.at l.fn.pieces)
