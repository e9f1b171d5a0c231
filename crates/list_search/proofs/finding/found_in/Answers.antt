use Rattle.std.proofs.Common.{◌≡◌, List, Bool, Result, Ok, sym, subst}
use Rattle.cqa_value.specs.declared.memory.NoMemory.{NoMemory}
use Rattle.cnf_form.specs.declared.formula.Cnf.{Cnf}
use Rattle.cnf_form.specs.declared.log.Log.{Log}
use Rattle.cnf_form.specs.Literals.{literals}
use Rattle.cnf_form.specs.Logs.{Refutes}
use Rattle.cnf_form.proofs.Sound.{refutation_sound}
use Rattle.cdcl.specs.declared.outcome.Outcome.{Outcome}
use Rattle.cdcl.specs.declared.outcome.Outcome.TheVariants as outcome
use Rattle.cdcl.specs.Outcomes.{IsModel, assignment}
use Rattle.flat_formula.specs.declared.guess.Found.{Found}
use Rattle.flat_formula.specs.Findings.{FoundIs}
use Rattle.list_search.specs.Finding.{FoundOf}
use Rattle.list_search.proofs.finding.found_in.Goals as goal

found_is : (cnf : Cnf) (r : Result Outcome NoMemory) (o : Outcome) (f : Found) → r ≡ Ok o → FoundOf o f → ((values : List Bool) → r ≡ Ok (outcome.Sat values) → IsModel cnf values) →
    ((log : Log) → r ≡ Ok (outcome.Unsat log) → Refutes cnf log.steps) → FoundIs (literals cnf.clauses) f
found_is cnf r (outcome.Sat values) f e o sat unsat = subst (FoundIs (literals cnf.clauses)) (sym o) (assignment values, (sat values e).1)
found_is cnf r (outcome.Unsat log) f e o sat unsat = subst (FoundIs (literals cnf.clauses)) (sym o) (λ v s. refutation_sound cnf log.steps (unsat log e) v s)
found_is cnf r (outcome.Spent log) f e o sat unsat = subst (FoundIs (literals cnf.clauses)) (sym o) tt

pub returns-in-Ok : goal.returns-in-Ok
returns-in-Ok c = found_is c.args.cnf.now c.solve.result c.in-Ok.outcome c.found_by.result c.in-Ok.is c.found_by.ensures c.solve.ensures.sat c.solve.ensures.unsat
