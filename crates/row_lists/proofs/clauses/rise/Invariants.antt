use Rattle.row_lists.proofs.Order.{RiseTo}
use Rattle.row_lists.proofs.clauses.rise.Given as goal

-- the numbers so far rise
abbrev pub invariant-loop-at : goal.invariant-loop-at
invariant-loop-at l = RiseTo l.numbers l.at
