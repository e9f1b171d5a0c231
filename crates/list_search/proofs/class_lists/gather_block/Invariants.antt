use Rattle.std.proofs.Common.{◌+◌}
use Rattle.row_lists.specs.Spans.{variables_of_spans}
use Rattle.list_search.specs.Classing.{AreRange}
use Rattle.list_search.proofs.class_lists.gather_block.Given as goal

-- the classes of the rows so far
abbrev pub invariant-loop-at : goal.invariant-loop-at
invariant-loop-at l = AreRange (variables_of_spans l.classed.rows.spans) l.classed.classes.items l.span.slot l.span.start (l.span.start + l.at) l.numbers.items
