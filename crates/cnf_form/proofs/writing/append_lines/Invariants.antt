use Rattle.std.proofs.Common.{◌≡◌, ◌++◌, take}
use Rattle.std.specs.List.{flat_map}
use Rattle.cnf_form.specs.Writing.{clause_line}
use Rattle.cnf_form.proofs.writing.append_lines.Given as goal

abbrev pub invariant-loop-clause : goal.invariant-loop-clause
invariant-loop-clause l = l.out.items ≡ l.fn.out.items ++ flat_map clause_line (take l.clause-index l.clauses)
