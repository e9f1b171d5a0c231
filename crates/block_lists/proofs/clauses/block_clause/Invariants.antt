use Rattle.std.proofs.Common.{◌≡◌, map, suc}
use Rattle.std.specs.List.{range_with_len}
use Rattle.cnf_form.specs.Literals.{positive}
use Rattle.block_lists.proofs.clauses.block_clause.Given as goal

-- the literals of the rows so far
abbrev pub invariant-loop-at : goal.invariant-loop-at
invariant-loop-at l = l.lits.items ≡ map positive (range_with_len (suc l.base) l.at)
