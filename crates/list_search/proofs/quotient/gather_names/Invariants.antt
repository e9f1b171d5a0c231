use Rattle.std.proofs.Common.{take}
use Rattle.row_lists.specs.Spans.{variables_of_spans}
use Rattle.list_search.specs.Quotients.{HasClassOf}
use Rattle.list_search.proofs.ClassLists.{AreGathered}
use Rattle.list_search.proofs.quotient.gather_names.Given as goal

-- the classes of the rows so far
abbrev pub invariant-loop-id : goal.invariant-loop-id
invariant-loop-id l = AreGathered (HasClassOf l.frame.tables (variables_of_spans l.classed.rows.spans) l.classed.classes.items) (take l.id-index l.names) l.numbers.items
