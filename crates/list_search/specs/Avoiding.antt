-- Rows of lists in whose place a repair can keep a row of their block that is in no list.
use Rattle.std.specs.Prelude.{◌≡◌, ℕ, ◌<◌, List, [], length, Contains, Bool, true, false, slice_index, slice_index_or}
use Rattle.cqa_model.specs.declared.query.RowId.{RowId}
use Rattle.cqa_model.specs.Database.{Table}
use Rattle.row_lists.specs.Lists.{name, HasFree}
use Rattle.row_lists.specs.Formulas.{table_at}
use Rattle.list_search.specs.Quotients.{columns_at}

-- the marked places of a slot have such rows
abbrev pub AreLooseOf : List Table → List ℕ → List (List ℕ) → List (List RowId) → ℕ → List Bool → Type 0
AreLooseOf db frame columns lists s loose =
    (i : ℕ) → i < length (columns_at columns s) → slice_index_or loose i false ≡ true → HasFree db lists (name (table_at frame s) (slice_index (columns_at columns s) i))

-- marks of the places of each slot before n
pub record AreLooseMarks (db : List Table) (frame : List ℕ) (columns : List (List ℕ)) (lists : List (List RowId)) (n : ℕ) (loose : List (List Bool)) : Type 0 where
  pub size : length loose ≡ n
  pub each : (s : ℕ) → s < n → length (slice_index_or loose s []) ≡ length (columns_at columns s)
  pub free : (s : ℕ) → s < n → AreLooseOf db frame columns lists s (slice_index_or loose s [])

-- a list has such a row
abbrev pub HasLoose : List Table → List (List RowId) → List RowId → Type 0
HasLoose db lists names = (id : RowId) × Contains names id × HasFree db lists id

-- each of these lists has one
abbrev pub HaveLoose : List Table → List (List RowId) → List (List RowId) → Type 0
HaveLoose db lists these = (names : List RowId) → Contains these names → HasLoose db lists names
