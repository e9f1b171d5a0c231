-- The part of names in order that begins with those of one table.
use Rattle.std.specs.Prelude.{◌≡◌, ◌≢◌, ℕ, ◌<◌, ◌≤◌, List, [], length, Option, Some, None, slice_index_or}
use Rattle.cqa_value.specs.declared.value.Value.{Value}
use Rattle.cqa_model.specs.declared.query.RowId.{RowId}
use Rattle.cqa_model.specs.Repairs.{SharesKey}
use Rattle.join_access.specs.Listing.{no_name}

abbrev pub kept_name_at : List RowId → ℕ → RowId
kept_name_at names k = slice_index_or names k no_name

-- the name with a number, from the first of the part on, is of the table
abbrev pub IsOfTable : List RowId → ℕ → ℕ → ℕ → Type 0
IsOfTable names from table k = (from ≤ k) × (k < length names) × ((kept_name_at names k).table ≡ table)

-- and its place comes before another
abbrev pub IsBelow : List RowId → ℕ → ℕ → ℕ → Type 0
IsBelow names table place k = ((kept_name_at names k).table ≡ table) × ((kept_name_at names k).place < place)

-- the names of the table come first, and their places rise
pub record IsTablePart (names : List RowId) (from table : ℕ) : Type 0 where
  pub within : from ≤ length names
  pub rising : (j k : ℕ) → from ≤ j → j < k → IsOfTable names from table k → IsBelow names table (kept_name_at names k).place j

-- the name with a number is of the block of the row at a place
abbrev pub IsInBlock : List ℕ → List (List Value) → List RowId → RowId → ℕ → Type 0
IsInBlock key rows names own k = (k < length names) × ((kept_name_at names k).table ≡ own.table) × SharesKey key (slice_index_or rows (kept_name_at names k).place []) (slice_index_or rows own.place [])

-- the names of the table are those of its rows, no two of one block
pub record AreOfOwnBlocks (key : List ℕ) (rows : List (List Value)) (names : List RowId) (from table : ℕ) : Type 0 where
  pub there : (k : ℕ) → IsOfTable names from table k → (kept_name_at names k).place < length rows
  pub apart : (j k : ℕ) → IsOfTable names from table j → IsOfTable names from table k → SharesKey key (slice_index_or rows (kept_name_at names j).place []) (slice_index_or rows (kept_name_at names k).place []) → j ≡ k

-- the name with a number is that of another row of the row's block
abbrev pub IsOtherOfBlock : List ℕ → List (List Value) → List RowId → ℕ → RowId → ℕ → Type 0
IsOtherOfBlock key rows names from own k = (from ≤ k) × IsInBlock key rows names own k × ((kept_name_at names k).place ≢ own.place)

-- the number of that name, if there is one
abbrev pub IsOtherIn : List ℕ → List (List Value) → List RowId → ℕ → RowId → Option ℕ → Type 0
IsOtherIn key rows names from own (Some k) = IsOtherOfBlock key rows names from own k
IsOtherIn key rows names from own None = (k : ℕ) → IsOtherOfBlock key rows names from own k → ⊥
