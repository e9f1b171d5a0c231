use Rattle.std.proofs.Common.{◌≡◌, map, take}
use Rattle.list_search.specs.Classing.{literal_of}
use Rattle.list_search.proofs.class_clauses.clause_of.Given as goal

-- the literals of the numbers so far
abbrev pub invariant-loop-var : goal.invariant-loop-var
invariant-loop-var l = l.lits.items ≡ map (literal_of l.positive) (take l.var-index l.numbers)
