-- Tables and databases as plain lists of rows.
use Rattle.std.specs.Prelude.{◌≡◌, IsTrue, Bool, ℕ, ◌<◌, ◌≤◌, ◌+◌, List, [], ◌∷◌, length, map, Contains, slice_index_or}
use Rattle.std.specs.List.Sorted.{IsStrictlySortedBy}
use Rattle.cqa_value.specs.declared.value.Kind.{Kind}
use Rattle.cqa_value.specs.declared.value.Value.{Value}
use Rattle.cqa_value.specs.Values.{kind_of}
pub use Rattle.cqa_value.specs.Values.{nothing, key_of, block_cmp}
use Rattle.cqa_model.specs.declared.limits.TheConstants.{MOST_TABLES, MOST_ROWS}
use Rattle.cqa_model.specs.declared.schema.Schema.{Schema}

-- two rows agree on the key columns: they are of one block
abbrev pub SharesKey : List ℕ → List Value → List Value → Type 0
SharesKey key x y = (p : ℕ) → Contains key p → slice_index_or x p nothing ≡ slice_index_or y p nothing

-- rows are consistent with a key: no two of them share it (Arenas, Bertossi and Chomicki, PODS 1999)
abbrev pub AreConsistent : List ℕ → List (List Value) → Type 0
AreConsistent key rows = (x y : List Value) → Contains rows x → Contains rows y → SharesKey key x y → x ≡ y

-- a schema and the rows that are stored
pub record Table : Type 0 where
  pub schema : Schema
  pub rows : List (List Value)

-- the kinds of a schema's columns
abbrev pub kinds_of : Schema → List Kind
kinds_of schema = map (λ column. column.kind) schema.columns

-- one value for each column, of its kind
abbrev pub IsRowOf : Schema → List Value → Type 0
IsRowOf schema row = map kind_of row ≡ kinds_of schema

-- different rows of the schema, in block order. No two rows of a strict table share its key
pub record IsTable (table : Table) : Type 0 where
  pub in_order : IsStrictlySortedBy (block_cmp table.schema.key) table.rows
  pub of_schema : (row : List Value) → Contains table.rows row → IsRowOf table.schema row
  pub strict : IsTrue table.schema.strict → AreConsistent table.schema.key table.rows

abbrev pub names_of : List Table → List (List ℕ)
names_of db = map (λ table. table.schema.name) db

-- the number of rows in all tables
abbrev pub row_total : List Table → ℕ
row_total [] = 0
row_total (table ∷ db) = length table.rows + row_total db

-- at most `MOST_TABLES` tables of different names, and at most `MOST_ROWS` rows in all
pub record IsDatabase (db : List Table) : Type 0 where
  pub few_tables : length db ≤ MOST_TABLES
  pub each : (table : Table) → Contains db table → IsTable table
  pub names_differ : (i j : ℕ) → i < length db → j < length db → slice_index_or (names_of db) i [] ≡ slice_index_or (names_of db) j [] → i ≡ j
  pub few_rows : row_total db ≤ MOST_ROWS

-- the rows of each table, the key of each, the mark of each, which says whether it is strict, and the kinds of the columns
-- of each
abbrev pub stored : List Table → List (List (List Value))
stored db = map (λ table. table.rows) db

abbrev pub keys_of : List Table → List (List ℕ)
keys_of db = map (λ table. table.schema.key) db

abbrev pub marks_of : List Table → List Bool
marks_of db = map (λ table. table.schema.strict) db

abbrev pub column_kinds : List Table → List (List Kind)
column_kinds db = map (λ table. kinds_of table.schema) db
