use Rattle.std.proofs.Common.{◌≡◌, map, take}
use Rattle.row_pieces.specs.Marks.{row_mark}
use Rattle.row_pieces.proofs.marked.set_marks.Given as goal

-- the marks so far are those of the rows
abbrev pub invariant-loop-at : goal.invariant-loop-at
invariant-loop-at l = take l.at l.marks ≡ map row_mark (take l.at l.rows)
