-- Where rows of an atom are looked for.
use Rattle.std.specs.Prelude.{ℕ, ◌+◌, ◌<◌, ◌≤◌, ◌⊎◌, Option, List, [], length, slice_index_or}
use Rattle.cqa_value.specs.declared.value.Value.{Value}
use Rattle.cqa_model.specs.declared.query.Query.{Query}
use Rattle.cqa_model.specs.Plan.{Placed}
use Rattle.plan_rows.specs.Links.{LeadsTo}
use Rattle.plan_rows.specs.Wanted.{IsWanted, NoneWanted}
use Rattle.plan_rows.specs.declared.places.Places.{Places}

-- to no row outside of the places do rows of the links lead, and each to which they lead is wanted
pub record AreEnoughPlaces (q : Query) (tables : List (List (List Value))) (row : Option (List Value)) (taken : List Placed) (links : List ℕ) (F : ℕ) (rows : List (List Value)) (s : Places) : Type 0 where
  pub within : s.end ≤ length rows
  pub others : (i : ℕ) → i < length rows → (i < s.start) ⊎ (s.end ≤ i) → LeadsTo q tables row taken links F (slice_index_or rows i []) → ⊥
  pub known : (i : ℕ) → i < length rows → LeadsTo q tables row taken links F (slice_index_or rows i []) → IsWanted s.wanted i

-- no row between two places is wanted
abbrev pub IsRowPassed : Places → ℕ → ℕ → Type 0
IsRowPassed s from to = NoneWanted s.wanted (from + 1) to
