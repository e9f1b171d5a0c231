-- Spent logs: what a search shows that used up its budget of added clauses.
use Rattle.std.specs.Prelude.{◌≡◌, ℕ, ◌<◌, ◌≤◌, ◌^◌, List, [], ◌∷◌, ◌++◌, Contains, length}
use Rattle.cnf_form.specs.declared.formula.Lit.{Lit}
use Rattle.cnf_form.specs.declared.formula.Cnf.{Cnf}
use Rattle.cnf_form.specs.declared.log.Step.{Step}
use Rattle.cnf_form.specs.declared.log.Step.TheVariants.{Add, Delete}
use Rattle.cnf_form.specs.Literals.{literals, AreVars, HasVar}
use Rattle.cnf_form.specs.Logs.{Passes, added}
use Rattle.cnf_form.specs.Propagation.{ReachesEmpty, StaysOpen}

-- no variable stands twice in the clause
abbrev pub NoVarTwice : List Lit → Type 0
NoVarTwice [] = Unit {0}
NoVarTwice (l ∷ c) = (HasVar c l.var → ⊥) × NoVarTwice c

-- the clause is not empty, and of the variables 1 to n, each at most once
pub record IsFit (n : ℕ) (c : List Lit) : Type 0 where
  pub some : (l : Lit) × Contains c l
  pub range : AreVars n c
  pub once : NoVarTwice c

-- none of the clauses is a subset of it
abbrev pub IsNew : List (List Lit) → List Lit → Type 0
IsNew db c = (d : List Lit) → Contains db d → ((m : Lit) → Contains d m → Contains c m) → ⊥

-- each clause is fit, and new over all before it
abbrev pub AreNew : ℕ → List (List Lit) → List (List Lit) → Type 0
AreNew n db [] = Unit {0}
AreNew n db (c ∷ cs) = IsFit n c × IsNew db c × AreNew n (db ++ c ∷ []) cs

-- every step is an addition
abbrev pub OnlyAdds : List Step → Type 0
OnlyAdds [] = Unit {0}
OnlyAdds (Add id clause hints ∷ steps) = OnlyAdds steps
OnlyAdds (Delete ids ∷ steps) = ⊥

-- the clauses of the formula and those that the steps add
abbrev pub all_clauses : Cnf → List Step → List (List Lit)
all_clauses cnf steps = literals cnf.clauses ++ added steps

-- A log that passes and adds as many new clauses as the budget has, after which propagation neither reaches the empty
-- clause nor gives every variable a value.
pub record IsSpentLog (cnf : Cnf) (budget : ℕ) (steps : List Step) : Type 0 where
  pub passes : Passes cnf steps
  pub adds : OnlyAdds steps
  pub count : length steps ≡ budget
  pub new : AreNew cnf.vars (literals cnf.clauses) (added steps)
  pub stuck : ReachesEmpty (all_clauses cnf steps) → ⊥
  pub free : (v : ℕ) × (1 ≤ v) × (v ≤ cnf.vars) × StaysOpen (all_clauses cnf steps) v

-- A formula of v variables has no spent log for a budget of 3^v or more.
abbrev pub SpentLogsEnd : Type 0
SpentLogsEnd = (cnf : Cnf) (budget : ℕ) (steps : List Step) → IsSpentLog cnf budget steps → budget < 3 ^ cnf.vars
