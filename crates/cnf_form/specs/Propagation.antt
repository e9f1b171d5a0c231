-- Unit propagation, as lists of literals (Davis and Putnam, 1960).
use Rattle.std.specs.Prelude.{ℕ, List, [], ◌∷◌, Contains}
use Rattle.cnf_form.specs.declared.formula.Lit.{Lit}
use Rattle.cnf_form.specs.Literals.{OthersDenied, AllDenied, HasVar}

-- Newest first: each literal is in a clause all of whose other literals are denied by those before it.
abbrev pub IsPropagation : List (List Lit) → List Lit → Type 0
IsPropagation clauses [] = Unit {0}
IsPropagation clauses (l ∷ before) =
    ((c : List Lit) × Contains clauses c × Contains c l × OthersDenied before c l) × IsPropagation clauses before

-- some clause has all its literals denied by a propagation
abbrev pub ReachesEmpty : List (List Lit) → Type 0
ReachesEmpty clauses = (p : List Lit) × IsPropagation clauses p × ((c : List Lit) × Contains clauses c × AllDenied p c)

-- no propagation gives the variable a value
abbrev pub StaysOpen : List (List Lit) → ℕ → Type 0
StaysOpen clauses v = (p : List Lit) → IsPropagation clauses p → HasVar p v → ⊥
