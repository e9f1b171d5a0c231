use Rattle.std.proofs.Common.{◌≡◌, suc, map}
use Rattle.std.specs.List.{range_with_len}
use Rattle.row_lists.specs.Clauses.{positive}
use Rattle.row_lists.proofs.clauses.fill_block.Given as goal

-- the literals of the rows so far
abbrev pub invariant-loop-at : goal.invariant-loop-at
invariant-loop-at l = l.lits.items ≡ map positive (range_with_len (suc l.span.base) l.at)
