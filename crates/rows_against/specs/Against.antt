-- Why a row isn't certain, told by few rows: no repair that keeps them holds a witness of it, and none of them can be left out.
use Rattle.std.specs.Prelude.{◌≡◌, ◌≢◌, ◌⊎◌, IsTrue, ℕ, ◌<◌, List, [], length, Contains, slice_index_or}
use Rattle.cqa_value.specs.declared.value.Value.{Value}
use Rattle.cqa_model.specs.declared.query.Query.{Query}
use Rattle.cqa_model.specs.declared.query.RowId.{RowId}
use Rattle.cqa_model.specs.Database.{Table, stored, keys_of}
use Rattle.cqa_model.specs.Repairs.{SharesKey, IsRepair}
use Rattle.cqa_model.specs.Query.{atom_at, IsWitness}
use Rattle.join_access.specs.Listing.{no_name}
use Rattle.repair_back.specs.Results.{is_contested_in}
use Rattle.table_blocks.specs.Tables.{AreStored}

-- the row of a name
abbrev pub row_named : List Table → RowId → List Value
row_named db name = slice_index_or (slice_index_or (stored db) name.table []) name.place []

-- the row of a name is among the rows that are kept of its table
abbrev pub KeepsName : List Table → List (List (List Value)) → RowId → Type 0
KeepsName db kept name = Contains (slice_index_or kept name.table []) (row_named db name)

-- no repair of the database that keeps these rows holds a witness of the row
abbrev pub Excludes : List Table → Query → List Value → List RowId → Type 0
Excludes db q row names = (kept : List (List (List Value))) → IsRepair db kept → ((name : RowId) → Contains names name → KeepsName db kept name) → (w : List (List Value)) → IsWitness q kept row w → ⊥

-- none of these rows can be left out: a repair that keeps the others holds a witness of the row
abbrev pub IsMinimal : List Table → Query → List Value → List RowId → Type 0
IsMinimal db q row names = (name : RowId) → Contains names name →
    (kept : List (List (List Value))) × IsRepair db kept × ((other : RowId) → Contains names other → other ≢ name → KeepsName db kept other) × ((w : List (List Value)) × IsWitness q kept row w)

-- the rows of two names are of one block
abbrev pub AreOfOneBlock : List Table → RowId → RowId → Type 0
AreOfOneBlock db a b = (a.table ≡ b.table) × SharesKey (slice_index_or (keys_of db) a.table []) (row_named db a) (row_named db b)

-- a name comes before another: its table is that of an earlier atom, or the same one and its row comes earlier there
pub record ComesBefore (q : Query) (a b : RowId) : Type 0 where
  pub first : ℕ
  pub second : ℕ
  pub of_first : (first < length q.atoms) × ((atom_at q first).table ≡ a.table)
  pub of_second : (second < length q.atoms) × ((atom_at q second).table ≡ b.table)
  pub before : (first < second) ⊎ ((first ≡ second) × (a.place < b.place))

-- names of rows of a query's tables, by its atoms and then in block order
abbrev pub AreInOrder : Query → List RowId → Type 0
AreInOrder q names = (i j : ℕ) → i < j → j < length names → ComesBefore q (slice_index_or names i no_name) (slice_index_or names j no_name)

-- no two of these rows are of one block
abbrev pub AreOfDifferentBlocks : List Table → List RowId → Type 0
AreOfDifferentBlocks db names = (a b : RowId) → Contains names a → Contains names b → AreOfOneBlock db a b → a ≡ b

-- Stored rows of blocks of two or more rows, no two of one block, that tell why a row isn't certain: no repair that keeps
-- them holds a witness of it, and none of them can be left out.
pub record IsAgainst (db : List Table) (q : Query) (row : List Value) (names : List RowId) : Type 0 where
  pub stored : AreStored db names
  pub chosen : (name : RowId) → Contains names name → IsTrue (is_contested_in db name)
  pub apart : AreOfDifferentBlocks db names
  pub in_order : AreInOrder q names
  pub excludes : Excludes db q row names
  pub minimal : IsMinimal db q row names
