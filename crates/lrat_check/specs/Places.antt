-- Where the literals of ids stand in a pool.
use Rattle.std.specs.Prelude.{◌≡◌, ℕ, ◌≤◌, List, length, Option, Some, None, eqb, slice_index_or}
use Rattle.std.specs.Map.{update}
use Rattle.std.specs.Ordering.{nat_cmp}
use Rattle.std.specs.BTreeMap.{get}
use Rattle.cnf_form.specs.declared.formula.Lit.{Lit}
use Rattle.lrat_check.specs.declared.places.Place.{Place}
use Rattle.lrat_check.specs.declared.places.Places.{Places}

-- a place of the list; none past its end
abbrev pub near_at : List (Option Place) → ℕ → Option Place
near_at near id = slice_index_or near id None

-- the first that there is
abbrev pub first_of : Option Place → Option Place → Option Place
first_of None other = other
first_of (Some p) other = Some p

-- the place of an id: in the list, or else in the map
abbrev pub place_of : Places → ℕ → Option Place
place_of places id = first_of (near_at places.near.items id) (get nat_cmp places.far id)

abbrev pub with_place : (ℕ → Option Place) → ℕ → Place → ℕ → Option Place
with_place places id p = update eqb places id (Some p)

abbrev pub without_place : (ℕ → Option Place) → ℕ → ℕ → Option Place
without_place places id = update eqb places id None

-- every place is within the pool
abbrev pub AreWithin : List Lit → Places → Type 0
AreWithin pool places = (id : ℕ) (p : Place) → place_of places id ≡ Some p → (p.from ≤ p.to) × (p.to ≤ length pool)
