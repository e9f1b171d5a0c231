use Rattle.std.proofs.Common.{◌↔◌, ◌≡◌, true, Bool, List, subst, sym}
use Rattle.cdcl.specs.declared.outcome.Outcome.{Outcome}
use Rattle.cdcl.specs.Outcomes.{IsModel}
use Rattle.merged_search.specs.Answers.{IsDecisive}
use Rattle.merged_search.proofs.outcome.is_answer.Goals as goal

pub returns-in-Sat : goal.returns-in-Sat
returns-in-Sat c = subst (λ (o : Outcome). c.is_model.result ≡ true ↔ IsDecisive c.args.cnf.now c.args.budget o) (sym c.in-Sat.is)
    (subst (λ (values : List Bool). c.is_model.result ≡ true ↔ IsModel c.args.cnf.now values) c.as_slice.ensures c.is_model.ensures)
