use Rattle.std.proofs.Common.{take}
use Rattle.row_lists.specs.Encodings.{AreNumbersOfNames}
use Rattle.row_lists.proofs.clauses.fill_numbers.Given as goal

-- the numbers of the rows so far
abbrev pub invariant-loop-id : goal.invariant-loop-id
invariant-loop-id l = AreNumbersOfNames l.lists.frame.now.tables l.blocks.spans (take l.id-index l.names) l.numbers.items
