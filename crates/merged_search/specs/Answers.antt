-- Which outcomes of a search are answers.
use Rattle.std.specs.Prelude.{ℕ}
use Rattle.cnf_form.specs.declared.formula.Cnf.{Cnf}
use Rattle.cdcl.specs.declared.outcome.Outcome.{Outcome}
use Rattle.cdcl.specs.declared.outcome.Outcome.TheVariants.{Sat, Unsat, Spent}
use Rattle.cdcl.specs.Outcomes.{OutcomeIs}

-- a model of the formula, or a refutation of it within the budget; a spent log is no answer
abbrev pub IsDecisive : Cnf → ℕ → Outcome → Type 0
IsDecisive cnf budget (Sat values) = OutcomeIs cnf budget (Sat values)
IsDecisive cnf budget (Unsat log) = OutcomeIs cnf budget (Unsat log)
IsDecisive cnf budget (Spent log) = ⊥
