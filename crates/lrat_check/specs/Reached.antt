-- What a check has come to after some steps.
use Rattle.std.specs.Prelude.{◌≡◌, ℕ, suc, List, [], ◌∷◌, Bool, true, false, Contains, length, Option, Some, None}
use Rattle.cnf_form.specs.declared.log.Step.{Step}
use Rattle.cnf_form.specs.Logs.{Live, StepsPass, added, live_after, top_after}
use Rattle.lrat_check.specs.declared.fault.LogFault.{LogFault}
use Rattle.lrat_check.specs.declared.checker.Checker.{Checker}
use Rattle.lrat_check.specs.Failing.{FailsAt}
use Rattle.lrat_check.specs.Store.{live_of}

-- the live clauses after some steps
abbrev pub live_through : Live → List Step → Live
live_through live [] = live
live_through live (step ∷ steps) = live_through (live_after live step) steps

-- the greatest id after some steps
abbrev pub top_through : ℕ → List Step → ℕ
top_through top [] = top
top_through top (step ∷ steps) = top_through (top_after top step) steps

-- some steps passed, and this is what is live and the greatest id; and whether one added the empty clause
pub record HasPassed (start : Live) (first : ℕ) (steps : List Step) (live : Live) (top passed : ℕ) (seen : Bool) : Type 0 where
  pub passes : StepsPass start first steps
  pub live_is : live ≡ live_through start steps
  pub top_is : top ≡ top_through first steps
  pub count : passed ≡ length steps
  pub yes : seen ≡ true → Contains (added steps) []
  pub no : seen ≡ false → Contains (added steps) [] → ⊥

-- all passed, or this is the first fault
abbrev pub ReachedBy : Live → ℕ → List Step → Live → ℕ → ℕ → Bool → Option LogFault → Type 0
ReachedBy start first steps live top passed seen None = HasPassed start first steps live top passed seen
ReachedBy start first steps live top passed seen (Some fault) = (n : ℕ) × (fault.step ≡ suc n) × FailsAt start first steps n fault.cause

abbrev pub Reached : Live → ℕ → List Step → Checker → Type 0
Reached start first steps c = ReachedBy start first steps (live_of c.store) c.top c.passed c.seen c.fault
