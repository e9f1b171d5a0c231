use Rattle.std.proofs.Common.{take}
use Rattle.list_search.specs.Classing.{AreBlockLists}
use Rattle.row_lists.specs.Spans.{variables_of_spans}
use Rattle.list_search.proofs.class_lists.block_lists.Given as goal

-- the lists of the blocks so far
abbrev pub invariant-loop-at : goal.invariant-loop-at
invariant-loop-at l = AreBlockLists (variables_of_spans l.classed.rows.spans) l.classed.classes.items (take l.at l.blocks.spans) l.lists.items
