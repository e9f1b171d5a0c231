-- A search that used up its budget.
use Rattle.std.specs.Prelude.{◌≡◌, ℕ, ◌<◌, ◌≤◌, ◌^◌, Some}
use Rattle.cnf_form.specs.declared.formula.Cnf.{Cnf}
use Rattle.cnf_form.specs.declared.log.Log.{Log}
use Rattle.cnf_form.specs.Literals.{literals}
use Rattle.cnf_form.specs.Propagation.{ReachesEmpty, StaysOpen}
use Rattle.reply_text.specs.declared.reply.Proof.{Proof}
use Rattle.session_state.specs.State.{State}

-- Only so can a budget be used up for a formula of v variables: it is under 3^v, and propagation alone neither refutes the
-- formula nor gives every variable a value.
pub record IsDue (cnf : Cnf) (budget : ℕ) : Type 0 where
  pub under : budget < 3 ^ cnf.vars
  pub unrefuted : ReachesEmpty (literals cnf.clauses) → ⊥
  pub free : (v : ℕ) × (1 ≤ v) × (v ≤ cnf.vars) × StaysOpen (literals cnf.clauses) v

-- The budget is used up for the formula of a row of a query or of a union, as IsSpent says, and it can be for this formula,
-- which is kept with the spent log as the last log.
pub record Spends (IsSpent : Cnf → Log → Type 0) (old : State) (conflicts : ℕ) (new : State) : Type 0 where
  pub proof : Proof
  pub spent : IsSpent proof.cnf proof.log
  pub due : IsDue proof.cnf old.budget
  pub told : conflicts ≡ old.budget
  pub keeps : new ≡ record old { last_log = Some proof }
