use Rattle.std.proofs.Common.{◌≡◌, take, map}
use Rattle.row_lists.specs.Formulas.{name_in}
use Rattle.row_lists.specs.Spans.{variables_of_spans}
use Rattle.row_lists.proofs.formula.names.Given as goal

-- the names of the rows of the blocks so far
abbrev pub invariant-loop-span : goal.invariant-loop-span
invariant-loop-span l = l.rows.items ≡ map (name_in l.lists.frame.now.tables) (variables_of_spans (take l.span-index l.blocks.spans))
