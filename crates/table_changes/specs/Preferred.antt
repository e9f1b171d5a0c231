-- Rows that are preferred by tests: of each block in which some row passes them, the rows that do.
use Rattle.std.specs.Prelude.{◌≡◌, ◌⊎◌, ◌↔◌, ◌+◌, ◌||◌, ◌&&◌, ◌<◌, ◌≤◌, not, IsTrue, ℕ, Bool, List, [], length, slice_index_or, Contains}
use Rattle.std.specs.List.{list_any, filter}
use Rattle.std.specs.List.Sorted.{IsStrictlySortedBy}
use Rattle.cqa_value.specs.declared.value.Value.{Value}
use Rattle.cqa_model.specs.Database.{Table, SharesKey, block_cmp}
use Rattle.table_blocks.specs.Keys.{same_key}
use Rattle.table_blocks.specs.Tables.{TestsHold, key_at, rows_at, with_rows}
use Rattle.table_blocks.specs.declared.test.ColumnTest.{ColumnTest}

-- in block order, the stored rows that pass all tests, and those of whose key no stored row does
pub record IsPreferred (key : List ℕ) (stored : List (List Value)) (tests : List ColumnTest) (rows : List (List Value)) : Type 0 where
  pub in_order : IsStrictlySortedBy (block_cmp key) rows
  pub members : (row : List Value) → Contains rows row ↔ (Contains stored row × (TestsHold tests row ⊎ ((other : List Value) → Contains stored other → SharesKey key row other → TestsHold tests other → ⊥)))

-- a table keeps the rows that tests prefer, and so many are taken from it
pub record Prefers (old : List Table) (table : ℕ) (tests : List ColumnTest) (new : List Table) (count : ℕ) : Type 0 where
  pub rows : List (List Value)
  pub preferred : IsPreferred (key_at old table) (rows_at old table) tests rows
  pub changed : new ≡ with_rows old table rows
  pub count_is : count + length rows ≡ length (rows_at old table)

-- a function tells of each row whether it passes all tests
abbrev pub DecidesTests : List ColumnTest → (List Value → Bool) → Type 0
DecidesTests tests passes = (row : List Value) → IsTrue (passes row) ↔ TestsHold tests row

-- a row stays beside some rows: it passes, or none of those that share its key passes
abbrev pub stays_among : List ℕ → (List Value → Bool) → List (List Value) → List Value → Bool
stays_among key passes rows row = passes row || not (list_any (λ other. same_key key row other && passes other) rows)

-- those of some rows that stay beside the others
abbrev pub staying : List ℕ → (List Value → Bool) → List (List Value) → List (List Value)
staying key passes rows = filter (stays_among key passes rows) rows

-- blocks of rows begin at a place: no row before it shares its key with one from there on
abbrev pub BlocksBegin : List ℕ → List (List Value) → ℕ → Type 0
BlocksBegin key rows at = (i j : ℕ) → i < at → at ≤ j → j < length rows → SharesKey key (slice_index_or rows i []) (slice_index_or rows j []) → ⊥
