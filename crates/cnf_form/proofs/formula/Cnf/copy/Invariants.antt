use Rattle.std.proofs.Common.{◌≡◌, take}
use Rattle.cnf_form.proofs.formula.Cnf.copy.Given as goal

abbrev pub invariant-loop-clause : goal.invariant-loop-clause
invariant-loop-clause l = l.clauses ≡ take l.clause-index l.clause-items
