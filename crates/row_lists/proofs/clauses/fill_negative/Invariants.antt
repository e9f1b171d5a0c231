use Rattle.std.proofs.Common.{◌≡◌, take, map}
use Rattle.row_lists.specs.Clauses.{negative}
use Rattle.row_lists.proofs.clauses.fill_negative.Given as goal

-- the literals of the numbers so far
abbrev pub invariant-loop-number : goal.invariant-loop-number
invariant-loop-number l = l.lits.items ≡ map negative (take l.number-index l.numbers)
