-- What a list of literals leaves to be forced.
use Rattle.std.specs.Prelude.{ℕ, ◌<◌, List, Contains}
use Rattle.search_trail.specs.Trail.{At}
use Rattle.cnf_form.specs.declared.formula.Lit.{Lit}
use Rattle.cnf_form.specs.Literals.{OthersDenied}

-- Each literal that the clause would force is in the list. It need not be in the clause, so a clause whose literals are
-- all denied is settled by no consistent list.
abbrev pub IsSettledClause : List Lit → List Lit → Type 0
IsSettledClause t c = (l : Lit) → OthersDenied t c l → Contains t l

-- those below a place are
abbrev pub AllSettledTo : ℕ → List Lit → List (List Lit) → Type 0
AllSettledTo n t f = (k : ℕ) (c : List Lit) → k < n → At f k c → IsSettledClause t c

abbrev pub AllSettled : List Lit → List (List Lit) → Type 0
AllSettled t f = (c : List Lit) → Contains f c → IsSettledClause t c
