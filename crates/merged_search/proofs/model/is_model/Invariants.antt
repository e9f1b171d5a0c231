use Rattle.std.proofs.Common.{take}
use Rattle.cnf_form.specs.Literals.{Satisfies}
use Rattle.cdcl.specs.Outcomes.{assignment}
use Rattle.merged_search.proofs.Walks.{Each}
use Rattle.merged_search.proofs.model.is_model.Given as goal

abbrev pub invariant-loop-clause : goal.invariant-loop-clause
invariant-loop-clause l = Each (Satisfies (assignment l.values)) (take l.clause-index l.clause-items)
