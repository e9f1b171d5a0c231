use Rattle.std.proofs.Common.{Result, IfOk, subst}
use Rattle.cqa_value.specs.declared.memory.NoMemory.{NoMemory}
use Rattle.cnf_form.proofs.Law.{spent_logs_end}
use Rattle.cnf_form.specs.Spent.{IsSpentLog}
use Rattle.cdcl.specs.declared.outcome.Outcome.{Outcome}
use Rattle.cdcl.specs.Outcomes.{OutcomeIs}
use Rattle.merged_search.proofs.search.solve.Goals as goal

pub returns-clause-spent_below : goal.returns-clause-spent_below
returns-clause-spent_below c log e =
    let spent : IsSpentLog c.args.cnf.now c.args.budget log.steps =
    subst (λ (r : Result Outcome NoMemory). IfOk r (λ o. OutcomeIs c.args.cnf.now c.args.budget o)) e c.outcome_of.ensures in
    spent_logs_end c.args.cnf.now c.args.budget log.steps spent
