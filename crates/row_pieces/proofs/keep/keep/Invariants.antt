use Rattle.std.proofs.Common.{◌≡◌, ◌≤◌, Bool, List, map}
use denote.Param.Always.{always_mut}
use Rattle.std.specs.Fn.{ComputesKey}
use Rattle.std.proofs.lemmas.List.Filters.{FiltersInPlace}
use Rattle.cqa_value.specs.declared.value.Value.{Value as Cell}
use Rattle.row_pieces.specs.Marks.{row_mark}
use Rattle.row_pieces.proofs.keep.keep.Given as goal

-- the rows so far that pass stand at the front, and the test answers as before
abbrev pub invariant-loop-at : goal.invariant-loop-at
invariant-loop-at g l = record {
  count : l.kept ≤ l.at;
  marked : l.marks ≡ map row_mark l.rows;
  callable : always_mut g.P.FnMut l.stays;
  kept : (p : List Cell → Bool) → ComputesKey g.P.FnMut p l.initial.stays → ComputesKey g.P.FnMut p l.stays × FiltersInPlace p l.initial.rows l.rows l.kept l.at;
}
