-- A trail of literals, and where each variable stands on it.
use Rattle.std.specs.Prelude.{◌≡◌, ◌<◌, ◌≤◌, ◌+◌, ℕ, Bool, List, Option, Some, None, length, slice_index_or, map, take, Contains}
use Rattle.cnf_form.specs.declared.formula.Lit.{Lit}
use Rattle.cnf_form.specs.Literals.{opposite, Denied, HasVar}
use Rattle.search_trail.specs.declared.trail.Entry.{Entry}

-- the element at the place
abbrev pub At : {X : Type 0} → List X → ℕ → X → Type 0
At xs k x = (k < length xs) × (slice_index_or xs k x ≡ x)

-- the literals on the trail
abbrev pub held : List Entry → List Lit
held trail = map (λ e. e.lit) trail

-- each variable's place on the trail, if it has one
pub record AreTrailPlaces (t : List Lit) (places : List (Option ℕ)) : Type 0 where
  pub right : (v p : ℕ) → slice_index_or places v None ≡ Some p → (p < length t) × ((l : Lit) → At t p l → l.var ≡ v)
  pub every : (p : ℕ) (l : Lit) → At t p l → slice_index_or places l.var None ≡ Some p

-- no variable stands at two places
abbrev pub IsApart : List Lit → Type 0
IsApart t = (p q : ℕ) (l m : Lit) → At t p l → At t q m → l.var ≡ m.var → p ≡ q

-- the value is that of the variable's literal, if there is one
abbrev pub ValueIs : List Lit → ℕ → Bool → Type 0
ValueIs t v value = (l : Lit) → Contains t l → l.var ≡ v → value ≡ l.positive

abbrev pub AllInRange : List Lit → ℕ → Type 0
AllInRange c n = (l : Lit) → Contains c l → l.var < n

-- variables are numbered from 1
abbrev pub AllLow : List Lit → Type 0
AllLow c = (l : Lit) → Contains c l → 1 ≤ l.var

-- the variables of all literals of each clause are below a number
abbrev pub AreAllInRange : List (List Lit) → ℕ → Type 0
AreAllInRange db n = (c : List Lit) → Contains db c → AllInRange c n

-- no literal is in the list together with its opposite
abbrev pub IsConsistent : List Lit → Type 0
IsConsistent t = (l : Lit) → Contains t l → Denied t l → ⊥

-- the variable has no literal in the list
abbrev pub IsUnassigned : List Lit → ℕ → Type 0
IsUnassigned t n = HasVar t n → ⊥

-- what comes before `end` denies the literals, and no less does
pub record EndIs (t c : List Lit) (end : ℕ) : Type 0 where
  pub all : (m : Lit) → Contains c m → Denied (take end t) m
  pub last : (k : ℕ) → end ≡ k + 1 → (m : Lit) × Contains c m × At t k (opposite m)

-- one more than the place of the variable
abbrev pub AfterIs : List Lit → ℕ → ℕ → Type 0
AfterIs t v n = (p : ℕ) (l : Lit) → At t p l → l.var ≡ v → n ≡ p + 1
