use Rattle.std.proofs.Common.{◌≡◌, ◌+◌, ◌-◌, ◌≤◌, ◌++◌, length, map, take}
use Rattle.std.specs.Vec.{vec_len, vec_capacity}
use Rattle.row_pieces.specs.Marks.{row_mark}
use Rattle.row_pieces.proofs.marked.push_marks.Given as goal

-- the marks of the rows so far stand behind, and there is room for the others
abbrev pub invariant-loop-at : goal.invariant-loop-at
invariant-loop-at l = record {
  pushed : l.marks.items ≡ l.initial.marks.items ++ map row_mark (take l.at l.rows);
  room : vec_len l.marks + (length l.rows - l.at) ≤ vec_capacity l.marks;
}
