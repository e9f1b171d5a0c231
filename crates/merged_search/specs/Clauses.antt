-- Clauses that the solver takes.
use Rattle.std.specs.Prelude.{ℕ, ◌<◌, ◌≤◌, List, [], ◌∷◌, Contains}
use Rattle.cnf_form.specs.declared.formula.Lit.{Lit}
use Rattle.cnf_form.specs.declared.formula.Cnf.{Cnf}
use Rattle.cnf_form.specs.Literals.{literals}

-- the variables of a clause rise, from above a number to another at most
abbrev pub RisesFrom : ℕ → ℕ → List Lit → Type 0
RisesFrom last n [] = Unit {0}
RisesFrom last n (l ∷ c) = (last < l.var) × (l.var ≤ n) × RisesFrom l.var n c

-- the variables of each clause of a formula rise, from 1 to its number of variables at most
abbrev pub AreRising : Cnf → Type 0
AreRising cnf = (c : List Lit) → Contains (literals cnf.clauses) c → RisesFrom 0 cnf.vars c
