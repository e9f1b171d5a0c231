-- What taking one step comes to.
use Rattle.std.specs.Prelude.{◌≡◌, ℕ, ℤ, ◌<◌, ◌≤◌, List, [], ◌⊎◌, Option, Some, None}
use Rattle.cnf_form.specs.declared.formula.Lit.{Lit}
use Rattle.cnf_form.specs.declared.log.Step.{Step}
use Rattle.cnf_form.specs.declared.log.Step.TheVariants.{Add, Delete}
use Rattle.lrat_check.specs.declared.fault.LogCause.{LogCause}
use Rattle.lrat_check.specs.declared.fault.LogCause.TheVariants.{IdNotRising}
use Rattle.cnf_form.specs.Logs.{Live, AdditionPasses, with_clause, StepPasses, live_after}
use Rattle.lrat_check.specs.Failing.{AdditionFails, StepFails}

abbrev pub AddIs : Live → ℕ → ℕ → List Lit → List ℤ → Live → Option LogCause → Type 0
AddIs live top id c hints new None = (top < id) × AdditionPasses live c hints × (new ≡ with_clause live id c)
AddIs live top id c hints new (Some cause) = ((id ≤ top) × (cause ≡ IdNotRising)) ⊎ ((top < id) × AdditionFails live c hints cause)

abbrev pub StepIs : Live → ℕ → Step → Live → Option LogCause → Type 0
StepIs live top step new None = StepPasses live top step × (new ≡ live_after live step)
StepIs live top step new (Some cause) = StepFails live top step cause

abbrev pub AddsEmpty : Step → Type 0
AddsEmpty (Add id clause hints) = clause.lits ≡ []
AddsEmpty (Delete ids) = ⊥
