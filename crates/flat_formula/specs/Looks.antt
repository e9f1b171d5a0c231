-- What truth values make of literals and of clauses.
use Rattle.std.specs.Prelude.{◌≡◌, ℕ, ◌<◌, ◌⊎◌, Bool, true, false, List, length, Contains, slice_index_or}
use Rattle.cnf_form.specs.declared.formula.Lit.{Lit}
use Rattle.cnf_form.specs.declared.formula.Truth.{Truth}
use Rattle.cnf_form.specs.declared.formula.Truth.TheVariants.{True, False, Open}
use Rattle.flat_formula.specs.declared.look.Look.{Look}
use Rattle.flat_formula.specs.declared.look.Look.TheVariants.{Holds, Loose, Forces, Fails}

-- the value of a variable, which is open where there is none
abbrev pub truth_at : List Truth → ℕ → Truth
truth_at values v = slice_index_or values v Open

-- the value of a literal of this sign, from that of its variable
abbrev pub signed : Bool → Truth → Truth
signed true t = t
signed false True = False
signed false False = True
signed false Open = Open

-- the value of a literal
abbrev pub lit_truth : List Truth → Lit → Truth
lit_truth values l = signed l.positive (truth_at values l.var)

-- a truth value is that of a Boolean, or is open
abbrev pub IsOf : Truth → Bool → Type 0
IsOf True b = b ≡ true
IsOf False b = b ≡ false
IsOf Open b = Unit {0}

-- an assignment has the values that aren't open
abbrev pub Agrees : (ℕ → Bool) → List Truth → Type 0
Agrees v values = (n : ℕ) → IsOf (truth_at values n) (v n)

-- the variables of a clause are below a number
abbrev pub AreBelow : ℕ → List Lit → Type 0
AreBelow n c = (l : Lit) → Contains c l → l.var < n

-- the variables of each clause are below a number
abbrev pub AreAllBelow : ℕ → List (List Lit) → Type 0
AreAllBelow n cs = (c : List Lit) → Contains cs c → AreBelow n c

-- a literal of the clause is true
abbrev pub HasTrue : List Truth → List Lit → Type 0
HasTrue values c = (l : Lit) × Contains c l × (lit_truth values l ≡ True)

-- a literal of each clause is true
abbrev pub HaveTrue : List Truth → List (List Lit) → Type 0
HaveTrue values cs = (c : List Lit) → Contains cs c → HasTrue values c

-- what a look at a clause says of it
abbrev pub IsLook : List Truth → List Lit → Look → Type 0
IsLook values c Holds = HasTrue values c
IsLook values c Loose = Unit {0}
IsLook values c (Forces l) = Contains c l × ((m : Lit) → Contains c m → (m ≡ l) ⊎ (lit_truth values m ≡ False))
IsLook values c Fails = (m : Lit) → Contains c m → lit_truth values m ≡ False

-- a literal is made true, and no other variable changes
pub record IsSet (old : List Truth) (l : Lit) (new : List Truth) : Type 0 where
  pub long : length new ≡ length old
  pub is : lit_truth new l ≡ True
  pub others : (n : ℕ) → (n ≡ l.var → ⊥) → truth_at new n ≡ truth_at old n
