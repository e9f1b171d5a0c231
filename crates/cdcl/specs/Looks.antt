-- What a look at a clause tells.
use Rattle.std.specs.Prelude.{◌≡◌, ◌≢◌, List, Contains}
use Rattle.cnf_form.specs.declared.formula.Lit.{Lit}
use Rattle.cnf_form.specs.Literals.{Denied, AllDenied, OthersDenied}
use Rattle.search_trail.specs.Trail.{IsUnassigned}
use Rattle.cdcl.specs.declared.look.Watches.{Watches}
use Rattle.cdcl.specs.declared.look.Watches.TheVariants.{None as NoLit, One, Two}
use Rattle.cdcl.specs.declared.look.Found.{Found}
use Rattle.cdcl.specs.declared.look.Found.TheVariants.{Holds, Free, Forces, AllFalse}

-- the literal of the clause is open, and all others are denied
pub record IsForced (t c : List Lit) (l : Lit) : Type 0 where
  pub inside : Contains c l
  pub free : IsUnassigned t l.var
  pub others : OthersDenied t c l

-- a literal of the clause beside the other that is not denied
abbrev pub IsFreeLiteral : List Lit → List Lit → Lit → Lit → Type 0
IsFreeLiteral t c other l = Contains c l × (Denied t l → ⊥) × (l ≢ other)

abbrev pub LookFinds : List Lit → List Lit → Lit → Found → Type 0
LookFinds t c other Holds = Contains t other
LookFinds t c other (Free l) = IsFreeLiteral t c other l
LookFinds t c other Forces = IsForced t c other
LookFinds t c other AllFalse = AllDenied t c

-- no literal, one, or two different ones
abbrev pub WatchesAre : List Lit → Watches → Type 0
WatchesAre c NoLit = (m : Lit) → Contains c m → ⊥
WatchesAre c (One l) = Contains c l × ((m : Lit) → Contains c m → m ≡ l)
WatchesAre c (Two a b) = Contains c a × Contains c b × (a ≢ b)
