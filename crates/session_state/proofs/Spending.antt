-- Where a budget is used up, what that needs holds.
use Rattle.std.proofs.Common.{◌≡◌, List, [], ◌∷◌, ◌++◌, ℕ, Some}
use Rattle.std.proofs.lemmas.List.Elements.{Contains-append_left}
use Rattle.cnf_form.specs.declared.formula.Lit.{Lit}
use Rattle.cnf_form.specs.declared.formula.Cnf.{Cnf}
use Rattle.cnf_form.specs.declared.log.Log.{Log}
use Rattle.cnf_form.specs.declared.log.Step.{Step}
use Rattle.cnf_form.specs.Literals.{literals}
use Rattle.cnf_form.specs.Logs.{added}
use Rattle.cnf_form.specs.Propagation.{IsPropagation}
use Rattle.cnf_form.specs.Spent.{IsSpentLog}
use Rattle.cnf_form.proofs.Law.{spent_logs_end}
use Rattle.reply_text.specs.declared.reply.Proof.{Proof}
use Rattle.session_state.specs.State.{State}
use Rattle.session_state.specs.Spent.{IsDue, Spends}

-- a propagation over some clauses is one over these and more
wider : (clauses more : List (List Lit)) (p : List Lit) → IsPropagation clauses p → IsPropagation (clauses ++ more) p
wider clauses more [] is = tt
wider clauses more (l ∷ before) is = ((is.0.0, Contains-append_left clauses more is.0.0 is.0.1, is.0.2, is.0.3), wider clauses more before is.1)

spent_is_due : (cnf : Cnf) (budget : ℕ) (steps : List Step) → IsSpentLog cnf budget steps → IsDue cnf budget
spent_is_due cnf budget steps s =
    let clauses = literals cnf.clauses in
    let more = added steps in
    record {
      under = spent_logs_end cnf budget steps s;
      unrefuted = λ r. s.stuck (r.0, wider clauses more r.0 r.1, (r.2.0, Contains-append_left clauses more r.2.0 r.2.1, r.2.2));
      free = (s.free.0, s.free.1, s.free.2, λ p is has. s.free.3 p (wider clauses more p is) has);
    }

-- a budget is used up for what a formula says
pub spends : (IsSpent : Cnf → Log → Type 0) (old new : State) (conflicts : ℕ) (proof : Proof) → IsSpent proof.cnf proof.log → IsSpentLog proof.cnf old.budget proof.log.steps → conflicts ≡ old.budget →
    new ≡ record old { last_log = Some proof } → Spends IsSpent old conflicts new
spends IsSpent old new conflicts proof spent log told keeps = record { proof = proof; spent = spent; due = spent_is_due proof.cnf old.budget proof.log.steps log; told = told; keeps = keeps }
