use Rattle.std.proofs.Common.{◌≡◌, take, map}
use Rattle.cnf_form.specs.Literals.{negative}
use Rattle.block_lists.proofs.clauses.negatives.Given as goal

-- the literals of the numbers so far
abbrev pub invariant-loop-number : goal.invariant-loop-number
invariant-loop-number l = l.lits.items ≡ map negative (take l.number-index l.numbers)
