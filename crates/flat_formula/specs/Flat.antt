-- Clauses as stretches of one pool of literals.
use Rattle.std.specs.Prelude.{◌≤◌, List, length, map, Contains}
use Rattle.std.specs.List.{slice_range}
use Rattle.cnf_form.specs.declared.formula.Lit.{Lit}
use Rattle.flat_formula.specs.declared.flat.Stretch.{Stretch}

-- the literals of each stretch
abbrev pub clauses_of : List Lit → List Stretch → List (List Lit)
clauses_of pool stretches = map (λ s. slice_range pool s.start s.end) stretches

-- the stretches are within the pool
abbrev pub AreWithin : List Lit → List Stretch → Type 0
AreWithin pool stretches = (s : Stretch) → Contains stretches s → (s.start ≤ s.end) × (s.end ≤ length pool)
