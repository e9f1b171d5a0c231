use Rattle.block_lists.proofs.Rising.{RiseTo}
use Rattle.block_lists.proofs.numbers.rise.Given as goal

-- the numbers so far rise
abbrev pub invariant-loop-at : goal.invariant-loop-at
invariant-loop-at l = RiseTo l.numbers l.at
