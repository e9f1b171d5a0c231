-- What following hints comes to.
use Rattle.std.specs.Prelude.{◌≡◌, ℕ, ℤ, pos, negsuc, List, ◌∷◌, Option, Some, None}
use Rattle.cnf_form.specs.declared.formula.Lit.{Lit}
use Rattle.lrat_check.specs.declared.fault.LogCause.{LogCause}
use Rattle.lrat_check.specs.declared.fault.LogCause.TheVariants.{UnknownId, HintNotUnit, RatHint}
use Rattle.cnf_form.specs.Literals.{AllDenied, IsUnit}
use Rattle.cnf_form.specs.Logs.{Live, HintsPass, AdditionPasses}
use Rattle.lrat_check.specs.declared.following.Follow.{Follow}
use Rattle.lrat_check.specs.declared.following.Follow.TheVariants as follow
use Rattle.cnf_form.specs.declared.formula.Truth.{Truth}
use Rattle.lrat_check.specs.Marks.{Shows}
use Rattle.lrat_check.specs.Failing.{AdditionFails, HasTwoFree, HintsFail}

abbrev pub ClauseIs : List Lit → List Lit → List Truth → Follow → Type 0
ClauseIs held c us follow.Pass = AllDenied held c
ClauseIs held c us follow.On = (l : Lit) × IsUnit held c l × Shows us (l ∷ held)
ClauseIs held c us (follow.Fail cause) = HasTwoFree held c × (cause ≡ HintNotUnit)

-- a hint that can't be followed for its id, or the clause under it
pub data FollowIs (live : Live) (held : List Lit) (hint : ℤ) (us : List Truth) (f : Follow) : Type 0 where
  Negative : (n : ℕ) → hint ≡ negsuc n → f ≡ follow.Fail RatHint → FollowIs live held hint us f
  Unknown : (id : ℕ) → hint ≡ pos id → live id ≡ None → f ≡ follow.Fail UnknownId → FollowIs live held hint us f
  Known : (id : ℕ) (c : List Lit) → hint ≡ pos id → live id ≡ Some c → ClauseIs held c us f → FollowIs live held hint us f

abbrev pub EndIs : Live → List Lit → List ℤ → Option LogCause → Type 0
EndIs live held hints None = HintsPass live held hints
EndIs live held hints (Some cause) = HintsFail live held hints cause

abbrev pub AdditionIs : Live → List Lit → List ℤ → Option LogCause → Type 0
AdditionIs live c hints None = AdditionPasses live c hints
AdditionIs live c hints (Some cause) = AdditionFails live c hints cause
