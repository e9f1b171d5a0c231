-- Rows in whose place a repair can keep a free row: one of their block that is at none of some places.
use Rattle.std.specs.Prelude.{◌≡◌, ℕ, ◌<◌, List, [], length, Contains, Bool, true, false, slice_index, slice_index_or}
use Rattle.cqa_value.specs.declared.value.Value.{Value}
use Rattle.cqa_model.specs.Repairs.{SharesKey}

-- the block of the row at a place has a row that is at none of these places
pub record HasFreePlace (key : List ℕ) (rows : List (List Value)) (places : List ℕ) (place : ℕ) : Type 0 where
  pub free : ℕ
  pub there : free < length rows
  pub shares : SharesKey key (slice_index_or rows place []) (slice_index_or rows free [])
  pub apart : Contains places free → ⊥

-- the blocks of the rows at marked places have such a row
abbrev pub AreLoose : List ℕ → List (List Value) → List ℕ → List Bool → Type 0
AreLoose key rows places loose = (i : ℕ) → i < length places → slice_index_or loose i false ≡ true → HasFreePlace key rows places (slice_index places i)

-- the place is marked
abbrev pub IsLooseAt : List ℕ → List Bool → ℕ → Type 0
IsLooseAt places loose place = (i : ℕ) × (i < length places) × (slice_index places i ≡ place) × (slice_index_or loose i false ≡ true)
