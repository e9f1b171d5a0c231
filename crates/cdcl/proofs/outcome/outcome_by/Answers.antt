use Rattle.std.proofs.Common.{◌≤◌, ◌+◌, ℕ, Bool, List, length, arith, subst, sym}
use Rattle.cnf_form.specs.declared.formula.Lit.{Lit}
use Rattle.cnf_form.specs.declared.log.Step.{Step}
use Rattle.cnf_form.specs.Literals.{literals, SatisfiesAll}
use Rattle.cnf_form.specs.Logs.{Refutes, AreConsecutive}
use Rattle.cnf_form.specs.Spent.{IsSpentLog}
use Rattle.cdcl.specs.declared.solver.Verdict.{Verdict}
use Rattle.cdcl.specs.declared.solver.Verdict.TheVariants.{Sat, Unsat, Spent}
use Rattle.cdcl.specs.declared.outcome.Outcome.{Outcome}
use Rattle.cdcl.specs.Lines.{VerdictIs, EndsEmpty, EndsSpent}
use Rattle.cdcl.specs.Outcomes.{AttemptIs, IsModel, assignment}
use Rattle.cdcl.proofs.Values.{model}
use Rattle.cdcl.proofs.Bridge.{refutation, spent_log}
use Rattle.cdcl.proofs.outcome.outcome_by.Goals as goal
use Rattle.cdcl.proofs.outcome.outcome_by.Goals.{in-Sat+in_ok-values-in-Sat, in-Unsat, in-Spent}

pub values-requires-clause-small : goal.values-requires-clause-small
values-requires-clause-small c =
    let first = c.args.solver.now in
    let v : VerdictIs first.permanent (literals first.clauses.items) (length first.places.items) c.args.budget c.run.new.self c.run.new.log.items Sat =
    subst (λ (x : Verdict). VerdictIs first.permanent (literals first.clauses.items) (length first.places.items) c.args.budget c.run.new.self c.run.new.log.items x) c.in-Sat.is c.in_ok-verdict.ensures in
    omega (arith, v.1, c.requires.small)

pub values-requires-clause-some : goal.values-requires-clause-some
values-requires-clause-some c =
    let first = c.args.solver.now in
    let v : VerdictIs first.permanent (literals first.clauses.items) (length first.places.items) c.args.budget c.run.new.self c.run.new.log.items Sat =
    subst (λ (x : Verdict). VerdictIs first.permanent (literals first.clauses.items) (length first.places.items) c.args.budget c.run.new.self c.run.new.log.items x) c.in-Sat.is c.in_ok-verdict.ensures in
    omega (arith, v.1, c.requires.some)

pub returns : goal.returns
returns c cnf db len =
    let budget = c.args.budget in
    let first = c.args.solver.now in
    let log = c.run.new.log.items in
    elim c.match-verdict.branch [
      | in-Sat+in_ok-values-in-Sat w ↦
          let values = w.in_ok-values-in-Sat.field-0.items in
          let v : VerdictIs first.permanent (literals first.clauses.items) (length first.places.items) budget c.run.new.self log Sat =
          subst (λ (x : Verdict). VerdictIs first.permanent (literals first.clauses.items) (length first.places.items) budget c.run.new.self log x) w.in-Sat.is c.in_ok-verdict.ensures in
          let m : IsModel cnf values = (
            omega (arith, w.in_ok-values-in-Sat.ensures.len, v.1, len),
            subst (λ (d : List (List Lit)). SatisfiesAll (assignment values) d) db (model (literals first.clauses.items) c.run.new.self values v.0 v.2 w.in_ok-values-in-Sat.ensures.values),
          ) in
          subst (λ (o : Outcome). AttemptIs first.permanent cnf budget o) (sym w.result-is) (subst (λ (vs : List Bool). IsModel cnf vs) (sym w.from_vec.ensures) m)
      | in-Unsat w ↦
          let v : VerdictIs first.permanent (literals first.clauses.items) (length first.places.items) budget c.run.new.self log Unsat =
          subst (λ (x : Verdict). VerdictIs first.permanent (literals first.clauses.items) (length first.places.items) budget c.run.new.self log x) w.in-Unsat.is c.in_ok-verdict.ensures in
          let e : EndsEmpty first.permanent (literals cnf.clauses) (cnf.vars + 1) budget log =
          subst (λ (d : List (List Lit)). EndsEmpty first.permanent d (cnf.vars + 1) budget log) db (subst (λ (n : ℕ). EndsEmpty first.permanent (literals first.clauses.items) n budget log) len v) in
          subst (λ (o : Outcome). AttemptIs first.permanent cnf budget o) (sym w.result-is)
          (subst (λ (steps : List Step). Refutes cnf steps × AreConsecutive (length cnf.clauses) steps × (length steps ≤ budget + 1)) (sym c.from_vec-steps.ensures) (refutation first.permanent cnf budget log e))
      | in-Spent w ↦ subst (λ (o : Outcome). AttemptIs first.permanent cnf budget o) (sym w.result-is) (λ all.
          let v : VerdictIs first.permanent (literals first.clauses.items) (length first.places.items) budget c.run.new.self log Spent =
          subst (λ (x : Verdict). VerdictIs first.permanent (literals first.clauses.items) (length first.places.items) budget c.run.new.self log x) w.in-Spent.is c.in_ok-verdict.ensures in
          let ends = v (omega (arith, all, c.run.new.self.clauses.ok)) in
          let e : EndsSpent first.permanent (literals cnf.clauses) (cnf.vars + 1) budget log =
          subst (λ (d : List (List Lit)). EndsSpent first.permanent d (cnf.vars + 1) budget log) db (subst (λ (n : ℕ). EndsSpent first.permanent (literals first.clauses.items) n budget log) len ends) in
          subst (λ (steps : List Step). IsSpentLog cnf budget steps) (sym c.from_vec-steps.ensures) (spent_log first.permanent cnf budget log e))
    ]
