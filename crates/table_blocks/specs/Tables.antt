-- How the tables of a database are found and changed.
use Rattle.std.specs.Prelude.{◌≡◌, ◌⊎◌, ◌↔◌, ◌+◌, ◌<◌, ℕ, Bool, false, if◌then◌else◌, List, [], ◌∷◌, length, Contains, Option, Some, None, position, nat_eq, slice_index_or, slice_get, slice_set, IfSome, take, zero, suc, ◌≤◌, ◌≢◌, map}
use Rattle.std.specs.List.{AllByRecursion}
use Rattle.std.specs.declared.cmp.Ordering.{Ordering}
use Rattle.std.specs.declared.cmp.Ordering.TheVariants.{Less}
use Rattle.std.specs.List.Sorted.{IsStrictlySortedBy}
use Rattle.std.specs.Cmp.Lexicographic.{pointwise}
use Rattle.cqa_value.specs.declared.value.Kind.{Kind}
use Rattle.cqa_value.specs.declared.value.Value.{Value}
use Rattle.cqa_value.specs.Valid.{IsValidRow}
use Rattle.cqa_model.specs.Database.{Table, IsDatabase, block_cmp, names_of, stored, keys_of, marks_of, column_kinds, nothing}
use Rattle.cqa_model.specs.declared.query.RowId.{RowId}
use Rattle.cqa_model.specs.Query.{OpHolds}
use Rattle.row_order.specs.Ordered.{block_order}
use Rattle.row_order.specs.Spans.{first_key, IsSpan}
use Rattle.table_blocks.specs.Keys.{first_clash}
use Rattle.table_blocks.specs.declared.clash.Clash.{Clash}
use Rattle.table_blocks.specs.declared.test.ColumnTest.{ColumnTest}

-- the place of the table with a name
abbrev pub table_named : List Table → List ℕ → Option ℕ
table_named db name = position (pointwise nat_eq name) (names_of db)

-- the rows, the key, the mark and the columns' kinds of the table at a place
abbrev pub rows_at : List Table → ℕ → List (List Value)
rows_at db table = slice_index_or (stored db) table []

abbrev pub key_at : List Table → ℕ → List ℕ
key_at db table = slice_index_or (keys_of db) table []

abbrev pub mark_at : List Table → ℕ → Bool
mark_at db table = slice_index_or (marks_of db) table false

abbrev pub kinds_at : List Table → ℕ → List Kind
kinds_at db table = slice_index_or (column_kinds db) table []

-- the rows at some places
abbrev pub rows_in : List (List Value) → List ℕ → List (List Value)
rows_in rows places = map (λ p. slice_index_or rows p []) places

-- and their names, as rows of the table at a place
abbrev pub names_in : ℕ → List ℕ → List RowId
names_in table places = map (λ p. record { table = table; place = p }) places

-- the names are those of stored rows
abbrev pub AreStored : List Table → List RowId → Type 0
AreStored db names = (name : RowId) → Contains names name → (name.table < length db) × (name.place < length (slice_index_or (stored db) name.table []))

-- the database with other rows in the table at a place
abbrev pub with_rows : List Table → ℕ → List (List Value) → List Table
with_rows [] at rows = []
with_rows (table ∷ db) zero rows = record table { rows = rows } ∷ db
with_rows (table ∷ db) (suc at) rows = table ∷ with_rows db at rows

-- the database with another mark of the table at a place: it is strict, or it isn't
abbrev pub with_mark : List Table → ℕ → Bool → List Table
with_mark [] at strict = []
with_mark (table ∷ db) zero strict = record table { schema = record table.schema { strict = strict } } ∷ db
with_mark (table ∷ db) (suc at) strict = table ∷ with_mark db at strict

-- rows whose values are valid
abbrev pub AreValidRows : List (List Value) → Type 0
AreValidRows rows = (row : List Value) → Contains rows row → IsValidRow row

-- tables that make a database, and whose values are valid
pub record AreValidTables (db : List Table) : Type 0 where
  pub database : IsDatabase db
  pub valid : (table : Table) → Contains db table → AreValidRows table.rows

-- the stored rows and the given ones, in block order
pub record IsMerged (key : List ℕ) (stored given rows : List (List Value)) : Type 0 where
  pub in_order : IsStrictlySortedBy (block_cmp key) rows
  pub members : (row : List Value) → Contains rows row ↔ (Contains stored row ⊎ Contains given row)

-- all tests hold for a row
abbrev pub TestsHold : List ColumnTest → List Value → Type 0
TestsHold tests row = AllByRecursion (λ test. OpHolds test.op (slice_index_or row test.col nothing) test.value) tests

-- the stored rows for which not all tests hold, in block order
pub record IsSpared (key : List ℕ) (stored : List (List Value)) (tests : List ColumnTest) (rows : List (List Value)) : Type 0 where
  pub in_order : IsStrictlySortedBy (block_cmp key) rows
  pub members : (row : List Value) → Contains rows row ↔ (Contains stored row × (TestsHold tests row → ⊥))

-- the rows from one place on up to another have some first key values, and each row for which all tests hold has these
pub record IsToldStretch (key : List ℕ) (rows : List (List Value)) (tests : List ColumnTest) (from to : ℕ) : Type 0 where
  pub values : List Value
  pub stretch : List (List Value)
  pub is : IsSpan key rows values from stretch
  pub end : to ≡ from + length stretch
  pub known : (row : List Value) → TestsHold tests row → first_key key values row ≡ values

-- the rows for which all tests hold are taken from a table, so many of them
pub record Deletes (old : List Table) (table : ℕ) (tests : List ColumnTest) (new : List Table) (count : ℕ) : Type 0 where
  pub rows : List (List Value)
  pub spared : IsSpared (key_at old table) (rows_at old table) tests rows
  pub changed : new ≡ with_rows old table rows
  pub count_is : count + length rows ≡ length (rows_at old table)

-- where a row stands among sorted rows, or would stand: those before it are below it, and the one there isn't
pub record IsPlace {A : Type 0} (cmp : A → A → Ordering) (rows : List A) (row : A) (at : ℕ) : Type 0 where
  pub within : at ≤ length rows
  pub below : AllByRecursion (λ other. cmp other row ≡ Less) (take at rows)
  pub stops : (other : A) → slice_get rows at ≡ Some other → cmp other row ≢ Less

-- the first two rows that a strict table would have of one key, if it had another key
abbrev pub rekey_clash : List Table → ℕ → List ℕ → Option Clash
rekey_clash db table key = if mark_at db table then first_clash key (block_order key (rows_at db table)) else None

-- a table has another key, and its rows stand in the block order of that key
pub record IsRekeyed (old : Table) (key : List ℕ) (new : Table) : Type 0 where
  pub name : new.schema.name ≡ old.schema.name
  pub columns : new.schema.columns ≡ old.schema.columns
  pub key_is : new.schema.key ≡ key
  pub strict : new.schema.strict ≡ old.schema.strict
  pub rows : new.rows ≡ block_order key old.rows

-- the table at a place has another key, and the others stay
pub record Rekeys (old : List Table) (table : ℕ) (key : List ℕ) (new : List Table) : Type 0 where
  pub changed : Table
  pub rekeyed : IfSome (slice_get old table) (λ was. IsRekeyed was key changed)
  pub others : new ≡ slice_set old table changed

-- where each of some rows stands among sorted rows, or would stand
abbrev pub ArePlaces : {A : Type 0} → (A → A → Ordering) → List A → List A → List ℕ → Type 0
ArePlaces cmp stored [] [] = Unit {0}
ArePlaces cmp stored (row ∷ rows) (at ∷ places) = IsPlace cmp stored row at × ArePlaces cmp stored rows places
ArePlaces cmp stored [] (at ∷ places) = ⊥
ArePlaces cmp stored (row ∷ rows) [] = ⊥

-- rows in block order, others that aren't among them, and the places of these
pub record AreMergeable (key : List ℕ) (stored fresh : List (List Value)) (places : List ℕ) : Type 0 where
  pub ascending : IsStrictlySortedBy (block_cmp key) stored
  pub rising : IsStrictlySortedBy (block_cmp key) fresh
  pub apart : (row : List Value) → Contains stored row → Contains fresh row → ⊥
  pub placed : ArePlaces (block_cmp key) stored fresh places
