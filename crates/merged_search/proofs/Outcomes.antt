-- What an answer says of its formula.
use Rattle.std.proofs.Common.{ℕ}
use Rattle.cnf_form.specs.declared.formula.Cnf.{Cnf}
use Rattle.cdcl.specs.declared.outcome.Outcome.{Outcome}
use Rattle.cdcl.specs.declared.outcome.Outcome.TheVariants.{Sat, Unsat, Spent}
use Rattle.cdcl.specs.Outcomes.{OutcomeIs}
use Rattle.merged_search.specs.Answers.{IsDecisive}

pub answer_is : (cnf : Cnf) (budget : ℕ) (outcome : Outcome) → IsDecisive cnf budget outcome → OutcomeIs cnf budget outcome
answer_is cnf budget (Sat values) says = says
answer_is cnf budget (Unsat log) says = says
answer_is cnf budget (Spent log) says = absurd says
