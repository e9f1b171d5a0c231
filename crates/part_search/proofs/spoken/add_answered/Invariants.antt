use Rattle.std.proofs.Common.{Contains, take}
use Rattle.cqa_model.specs.declared.query.ColRef.{ColRef}
use Rattle.part_search.specs.Spoken.{HasColumn, LosesNone}
use Rattle.part_search.proofs.spoken.add_answered.Given as goal

-- the columns of the answer so far are there
abbrev pub invariant-loop-column : goal.invariant-loop-column
invariant-loop-column l = record {
  kept : LosesNone l.fn.columns.items l.columns.items;
  added : (c : ColRef) → Contains (take l.column-index l.answer) c → HasColumn l.atom l.columns.items c;
}
