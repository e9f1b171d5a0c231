use Rattle.std.proofs.Common.{◌≡◌, ◌++◌, map, take}
use Rattle.cnf_form.specs.Literals.{literals}
use Rattle.list_search.specs.Classing.{literal_of}
use Rattle.list_search.proofs.class_clauses.add_clauses.Given as goal

-- the clauses of the lists so far
abbrev pub invariant-loop-list : goal.invariant-loop-list
invariant-loop-list l = literals l.clauses.items ≡ literals l.fn.clauses.items ++ map (map (literal_of l.positive)) (take l.list-index l.lists)
