-- What marks say of literals.
use Rattle.std.specs.Prelude.{◌≡◌, ◌≢◌, ℕ, ◌<◌, Bool, true, false, List, Contains, length, slice_index_or, Option, Some, None, ◌∷◌, map}
use Rattle.cnf_form.specs.declared.formula.Lit.{Lit}
use Rattle.cnf_form.specs.Literals.{negated, opposite}
use Rattle.cnf_form.specs.declared.formula.Truth.{Truth}
use Rattle.cnf_form.specs.declared.formula.Truth.TheVariants as truth
use Rattle.lrat_check.specs.declared.marks.Look.{Look}
use Rattle.lrat_check.specs.declared.marks.Look.TheVariants as look
use Rattle.cnf_form.specs.Literals.{HasBothSigns}

-- the mark of a variable; those behind the last are open
abbrev pub truth_at : List Truth → ℕ → Truth
truth_at ts v = slice_index_or ts v truth.Open

-- the mark that makes a literal of a sign true
abbrev pub sign : Bool → Truth
sign true = truth.True
sign false = truth.False

-- the marks make a literal true, or false
abbrev pub IsMarkedTrue : List Truth → Lit → Type 0
IsMarkedTrue ts l = truth_at ts l.var ≡ sign l.positive

abbrev pub IsFalse : List Truth → Lit → Type 0
IsFalse ts l = truth_at ts l.var ≡ sign (negated l.positive)

-- nothing is marked
abbrev pub AllOpen : List Truth → Type 0
AllOpen ts = (v : ℕ) → truth_at ts v ≡ truth.Open

-- what is not on the trail is open
pub record IsValid (ts : List Truth) (trail : List ℕ) : Type 0 where
  pub tracked : (v : ℕ) → truth_at ts v ≢ truth.Open → Contains trail v
  pub within : (v : ℕ) → Contains trail v → v < length ts

-- the marks are those of the literals of a list
pub record Shows (ts : List Truth) (held : List Lit) : Type 0 where
  pub marked : (l : Lit) → Contains held l → IsMarkedTrue ts l
  pub present : (l : Lit) → IsMarkedTrue ts l → Contains held l

-- two literals of a clause aren't false
pub record HasTwo (ts : List Truth) (c : List Lit) : Type 0 where
  pub one : Lit
  pub other : Lit
  pub apart : one ≢ other
  pub one_inside : Contains c one
  pub other_inside : Contains c other
  pub one_free : IsFalse ts one → ⊥
  pub other_free : IsFalse ts other → ⊥

-- one literal of a clause isn't false, and all others are
pub record HasOneOpen (ts : List Truth) (c : List Lit) (l : Lit) : Type 0 where
  pub inside : Contains c l
  pub free : IsFalse ts l → ⊥
  pub others : (m : Lit) → Contains c m → m ≢ l → IsFalse ts m

-- what a look at a clause tells: all its literals are false, all but one, or not even so many
abbrev pub Looked : List Truth → List Lit → Look → Type 0
Looked ts c look.Conflict = (m : Lit) → Contains c m → IsFalse ts m
Looked ts c (look.Unit l) = HasOneOpen ts c l
Looked ts c look.Many = HasTwo ts c

-- the one literal of a clause that isn't false, or none where all are
abbrev pub IsOneLeft : List Truth → List Lit → Option Lit → Type 0
IsOneLeft ts c None = (m : Lit) → Contains c m → IsFalse ts m
IsOneLeft ts c (Some l) = HasOneOpen ts c l

-- What holding a literal makes of the marks.
abbrev pub HoldIs : List Truth → List Truth → Lit → Bool → Type 0
HoldIs ts us l true = (held : List Lit) → Shows ts held → Shows us (l ∷ held)
HoldIs ts us l false = IsFalse ts l

-- the literals of a clause were assumed to be false; or it has one in both signs
abbrev pub Assumed : List Truth → List Lit → Bool → Type 0
Assumed ts c true = HasBothSigns c
Assumed ts c false = (HasBothSigns c → ⊥) × Shows ts (map opposite c)
