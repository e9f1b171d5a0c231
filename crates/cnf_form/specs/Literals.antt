-- Literals and clauses, and what makes them true.
use Rattle.std.specs.Prelude.{◌≡◌, ◌≢◌, ◌≤◌, ℕ, Bool, true, false, List, Contains, map}
use Rattle.cnf_form.specs.declared.formula.Lit.{Lit}
use Rattle.cnf_form.specs.declared.formula.Clause.{Clause}
use Rattle.cnf_form.specs.declared.formula.Cnf.{Cnf}

-- the literals of each clause
abbrev pub literals : List Clause → List (List Lit)
literals clauses = map (λ c. c.lits) clauses

-- the two literals of a variable
abbrev pub positive : ℕ → Lit
positive n = record { var = n; positive = true }

abbrev pub negative : ℕ → Lit
negative n = record { var = n; positive = false }

abbrev pub negated : Bool → Bool
negated true = false
negated false = true

abbrev pub opposite : Lit → Lit
opposite l = record { var = l.var; positive = negated l.positive }

-- the opposite of the literal is in the list
abbrev pub Denied : List Lit → Lit → Type 0
Denied held l = Contains held (opposite l)

-- every literal of the clause is denied
abbrev pub AllDenied : List Lit → List Lit → Type 0
AllDenied held c = (m : Lit) → Contains c m → Denied held m

-- every literal of the clause but l is denied
abbrev pub OthersDenied : List Lit → List Lit → Lit → Type 0
OthersDenied held c l = (m : Lit) → Contains c m → m ≢ l → Denied held m

-- l is the one literal of the clause, counted without repeats, that is not denied
pub record IsUnit (held c : List Lit) (l : Lit) : Type 0 where
  pub inside : Contains c l
  pub free : Denied held l → ⊥
  pub others : OthersDenied held c l

-- a literal of the variable is in the list
abbrev pub HasVar : List Lit → ℕ → Type 0
HasVar c v = (l : Lit) × Contains c l × (l.var ≡ v)

-- each literal is of one of the variables 1 to n
abbrev pub AreVars : ℕ → List Lit → Type 0
AreVars n c = (l : Lit) → Contains c l → (1 ≤ l.var) × (l.var ≤ n)

-- each literal is of one of the formula's variables, which are numbered from 1
abbrev pub AreVarsInRange : Cnf → Type 0
AreVarsInRange cnf = (c : List Lit) → Contains (literals cnf.clauses) c → AreVars cnf.vars c

-- a variable stands in the clause with both signs
abbrev pub HasBothSigns : List Lit → Type 0
HasBothSigns c = (l : Lit) × Contains c l × Contains c (opposite l)

-- the assignment gives each variable a truth value, and this literal is true
abbrev pub MakesTrue : (ℕ → Bool) → Lit → Type 0
MakesTrue v l = v l.var ≡ l.positive

-- some literal of the clause is true
abbrev pub Satisfies : (ℕ → Bool) → List Lit → Type 0
Satisfies v c = (l : Lit) × Contains c l × MakesTrue v l

-- some literal of each clause is true
abbrev pub SatisfiesAll : (ℕ → Bool) → List (List Lit) → Type 0
SatisfiesAll v cs = (c : List Lit) → Contains cs c → Satisfies v c
