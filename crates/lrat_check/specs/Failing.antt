-- Which logs are refused over a formula, and why.
use Rattle.std.specs.Prelude.{◌≡◌, ◌≢◌, ℕ, zero, suc, ◌<◌, ◌≤◌, ℤ, pos, negsuc, List, [], ◌∷◌, ◌⊎◌, map, Contains, length, Some, None}
use Rattle.cnf_form.specs.declared.formula.Lit.{Lit}
use Rattle.cnf_form.specs.declared.formula.Cnf.{Cnf}
use Rattle.cnf_form.specs.declared.log.Step.{Step}
use Rattle.cnf_form.specs.declared.log.Step.TheVariants.{Add, Delete}
use Rattle.cnf_form.specs.Literals.{literals, opposite, Denied, IsUnit, HasBothSigns}
use Rattle.cnf_form.specs.Logs.{Live, StepPasses, StepsPass, added, live_after, numbered, top_after, without}
use Rattle.lrat_check.specs.declared.fault.LogCause.{LogCause}
use Rattle.lrat_check.specs.declared.fault.LogCause.TheVariants.{HintNotUnit, IdNotRising, NoConflict, NoEmptyClause, RatHint, UnknownId}
use Rattle.lrat_check.specs.declared.fault.LogFault.{LogFault}

-- two different literals of the clause are not denied
pub record HasTwoFree (held c : List Lit) : Type 0 where
  pub one : Lit
  pub other : Lit
  pub apart : one ≢ other
  pub one_inside : Contains c one
  pub other_inside : Contains c other
  pub one_free : Denied held one → ⊥
  pub other_free : Denied held other → ⊥

-- The hints come to one that cannot be followed, or to their end.
abbrev pub HintsFail : Live → List Lit → List ℤ → LogCause → Type 0
HintsFail live held [] cause = cause ≡ NoConflict
HintsFail live held (negsuc n ∷ hints) cause = cause ≡ RatHint
HintsFail live held (pos id ∷ hints) cause =
    ((live id ≡ None) × (cause ≡ UnknownId))
    ⊎ ((c : List Lit) × (live id ≡ Some c)
    × ((HasTwoFree held c × (cause ≡ HintNotUnit)) ⊎ ((l : Lit) × IsUnit held c l × HintsFail live (l ∷ held) hints cause)))

-- An addition fails by its hints, with its own literals held false, where these have no variable with both signs.
abbrev pub AdditionFails : Live → List Lit → List ℤ → LogCause → Type 0
AdditionFails live c hints cause = (HasBothSigns c → ⊥) × HintsFail live (map opposite c) hints cause

-- An id is not live when its turn comes.
abbrev pub DeletionFails : Live → List ℕ → Type 0
DeletionFails live [] = ⊥
DeletionFails live (id ∷ ids) = (live id ≡ None) ⊎ ((live id ≢ None) × DeletionFails (without live id) ids)

-- A step fails over the live clauses and the greatest id so far.
abbrev pub StepFails : Live → ℕ → Step → LogCause → Type 0
StepFails live top (Add id clause hints) cause =
    ((id ≤ top) × (cause ≡ IdNotRising)) ⊎ ((top < id) × AdditionFails live clause.lits hints cause)
StepFails live top (Delete ids) cause = DeletionFails live ids × (cause ≡ UnknownId)

-- The steps before the one at a place pass, and that one fails.
abbrev pub FailsAt : Live → ℕ → List Step → ℕ → LogCause → Type 0
FailsAt live top [] n cause = ⊥
FailsAt live top (step ∷ steps) zero cause = StepFails live top step cause
FailsAt live top (step ∷ steps) (suc n) cause = StepPasses live top step × FailsAt (live_after live step) (top_after top step) steps n cause

-- The fault of steps: the number, from 1, of the first that fails, with its cause; or, where all pass and none adds the empty
-- clause, how many they are.
abbrev pub HasFault : Live → ℕ → List Step → LogFault → Type 0
HasFault live top steps fault =
    ((n : ℕ) × (fault.step ≡ suc n) × FailsAt live top steps n fault.cause)
    ⊎ (StepsPass live top steps × (Contains (added steps) [] → ⊥) × (fault.step ≡ length steps) × (fault.cause ≡ NoEmptyClause))

-- The steps have this fault over the clauses of the formula.
abbrev pub Refused : Cnf → List Step → LogFault → Type 0
Refused cnf steps fault = HasFault (numbered (literals cnf.clauses)) (length cnf.clauses) steps fault
