-- Repairs as names of rows: one row of each block of each of a query's tables.
use Rattle.std.specs.Prelude.{◌≡◌, ℕ, ◌<◌, ◌&&◌, Bool, true, not, List, [], length, flat_map, slice_get, slice_index_or, Some, Contains}
use Rattle.std.specs.List.{list_any, filter}
use Rattle.std.specs.Ordering.{nat_cmp}
use Rattle.std.specs.List.Sorted.{IsStrictlySortedBy}
use Rattle.cqa_value.specs.declared.value.Value.{Value}
use Rattle.cqa_value.specs.Values.{row_eq}
use Rattle.cqa_model.specs.declared.query.Query.{Query}
use Rattle.cqa_model.specs.declared.query.RowId.{RowId}
use Rattle.cqa_model.specs.Database.{Table, key_of, keys_of, stored}
use Rattle.cqa_model.specs.Repairs.{IsRepair}
use Rattle.cqa_model.specs.Blocks.{IsPick}
use Rattle.cqa_model.specs.Query.{atom_at, atom_key, rows_of, IsWitness}
use Rattle.repair_back.specs.Flags.{flags_at, places_from}
use Rattle.table_blocks.specs.Tables.{rows_at, key_at, rows_in, names_in}

-- the names of the rows whose flags are set, table by table
abbrev pub names_kept : List ℕ → List (List Bool) → List RowId
names_kept tables flags = flat_map (λ t. names_in t (places_from 0 (flags_at flags t))) tables

-- the names are those of the rows that are kept of some tables, by these tables and then in block order
pub record AreKeptOver (db : List Table) (tables : List ℕ) (names : List RowId) (kept : List (List (List Value))) : Type 0 where
  pub places : ℕ → List ℕ
  pub are : names ≡ flat_map (λ t. names_in t (places t)) tables
  pub rises : (t : ℕ) → Contains tables t → IsStrictlySortedBy nat_cmp (places t)
  pub there : (t : ℕ) → Contains tables t → (p : ℕ) → Contains (places t) p → p < length (rows_at db t)
  pub rows : (t : ℕ) → Contains tables t → slice_index_or kept t [] ≡ rows_in (rows_at db t) (places t)

-- a repair of the database keeps these rows of some tables
abbrev pub IsRepairOver : List Table → List ℕ → List RowId → Type 0
IsRepairOver db tables names = (kept : List (List (List Value))) × IsRepair db kept × AreKeptOver db tables names kept

-- the names are those of the rows that are kept of the query's tables, by atoms and then in block order
pub record AreKept (q : Query) (db : List Table) (names : List RowId) (kept : List (List (List Value))) : Type 0 where
  pub places : ℕ → List ℕ
  pub are : names ≡ flat_map (λ atom. names_in atom.table (places atom.table)) q.atoms
  pub rises : (F : ℕ) → F < length q.atoms → IsStrictlySortedBy nat_cmp (places (atom_at q F).table)
  pub there : (F : ℕ) → F < length q.atoms → (p : ℕ) → Contains (places (atom_at q F).table) p → p < length (rows_of q (stored db) F)
  pub rows : (F : ℕ) → F < length q.atoms → rows_of q kept F ≡ rows_in (rows_of q (stored db) F) (places (atom_at q F).table)

-- a repair of the database keeps these rows of the query's tables
abbrev pub IsRepairOf : Query → List Table → List RowId → Type 0
IsRepairOf q db names = (kept : List (List (List Value))) × IsRepair db kept × AreKept q db names kept

-- and it holds no witness of a row
abbrev pub Rejects : Query → List Table → List Value → List RowId → Type 0
Rejects q db row names = (kept : List (List (List Value))) × IsRepair db kept × AreKept q db names kept × ((w : List (List Value)) → IsWitness q kept row w → ⊥)

-- a name stands in a list where a model has `true`
abbrev pub IsTrueName : List RowId → List Bool → RowId → Type 0
IsTrueName names model name = (k : ℕ) × (slice_get names k ≡ Some name) × (slice_get model k ≡ Some true)

-- each of these names is the pick of its block: the first row of it that is listed with `true`, or else its first row
abbrev pub ArePicks : Query → List Table → List RowId → List Bool → List RowId → Type 0
ArePicks q db listed model names = (F : ℕ) → F < length q.atoms → (p : ℕ) → Contains names (record { table = (atom_at q F).table; place = p }) →
    IsPick (atom_key q F) (rows_of q (stored db) F) (λ i. IsTrueName listed model (record { table = (atom_at q F).table; place = i })) p

-- the same for the names of rows of some tables
abbrev pub AreTablePicks : List Table → List ℕ → List RowId → List Bool → List RowId → Type 0
AreTablePicks db tables listed model names = (t : ℕ) → Contains tables t → (p : ℕ) → Contains names (record { table = t; place = p }) →
    IsPick (key_at db t) (rows_at db t) (λ i. IsTrueName listed model (record { table = t; place = i })) p

-- two rows are of one block
abbrev pub is_of_block : List ℕ → List Value → List Value → Bool
is_of_block key x y = row_eq (key_of key x) (key_of key y)

-- another row is of the row's block
abbrev pub is_contested : List ℕ → List (List Value) → List Value → Bool
is_contested key rows x = list_any (λ y. is_of_block key x y && not (row_eq x y)) rows

-- so it is of the row of a name
abbrev pub is_contested_in : List Table → RowId → Bool
is_contested_in db name = is_contested (slice_index_or (keys_of db) name.table []) (slice_index_or (stored db) name.table []) (slice_index_or (slice_index_or (stored db) name.table []) name.place [])

-- the names of rows whose blocks have another row
abbrev pub contested_of : List Table → List RowId → List RowId
contested_of db names = filter (is_contested_in db) names
