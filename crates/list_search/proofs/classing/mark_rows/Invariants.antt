use Rattle.std.proofs.Common.{Contains, take}
use Rattle.list_search.specs.Classing.{Marks}
use Rattle.row_lists.specs.Spans.{variables_of_spans}
use Rattle.list_search.proofs.classing.mark_rows.Given as goal

-- the rows so far have their classes, and the one to compare with is one of all
abbrev pub invariant-loop-place : goal.invariant-loop-place
invariant-loop-place l = record {
  first : Contains l.places l.first;
  marks : Marks (variables_of_spans l.numbered.spans) l.columns l.rows l.slot (take l.place-index l.places) l.fn.classes l.classes;
}
