-- What is kept of a table: a flag for each row, and one of each block is set.
use Rattle.std.specs.Prelude.{◌≡◌, ℕ, suc, ◌<◌, Bool, true, false, cond, List, [], ◌∷◌, length, map, slice_index_or, Contains}
use Rattle.cqa_value.specs.declared.value.Value.{Value}
use Rattle.cqa_model.specs.declared.query.Query.{Query}
use Rattle.cqa_model.specs.Database.{Table, stored}
use Rattle.cqa_model.specs.Repairs.{SharesKey}
use Rattle.cqa_model.specs.Query.{atom_at, atom_key, rows_of}
use Rattle.cqa_model.specs.Shape.{AreDistinct}
use Rattle.table_blocks.specs.Tables.{rows_at, key_at}

abbrev pub IsFlagged : List Bool → ℕ → Type 0
IsFlagged flags p = slice_index_or flags p false ≡ true

-- the rows whose flag is set
abbrev pub kept_of : List (List Value) → List Bool → List (List Value)
kept_of [] flags = []
kept_of (x ∷ xs) [] = []
kept_of (x ∷ xs) (b ∷ bs) = cond b (x ∷ kept_of xs bs) (kept_of xs bs)

-- exactly one flag is set in each block
pub record HasOneFlagEach (key : List ℕ) (rows : List (List Value)) (flags : List Bool) : Type 0 where
  pub size : length flags ≡ length rows
  pub some : (i : ℕ) → i < length rows → (p : ℕ) × IsFlagged flags p × SharesKey key (slice_index_or rows i []) (slice_index_or rows p [])
  pub one : (p r : ℕ) → IsFlagged flags p → IsFlagged flags r → SharesKey key (slice_index_or rows p []) (slice_index_or rows r []) → p ≡ r

-- the rows of each table whose flags are set
abbrev pub kept_tables : List (List (List Value)) → List (List Bool) → List (List (List Value))
kept_tables [] flags = []
kept_tables (rows ∷ tables) [] = [] ∷ kept_tables tables []
kept_tables (rows ∷ tables) (f ∷ flags) = kept_of rows f ∷ kept_tables tables flags

-- the flags of an atom's table
abbrev pub flags_of : Query → List (List Bool) → ℕ → List Bool
flags_of q flags F = slice_index_or flags (atom_at q F).table []

-- one row is kept of each block of each of the query's tables
pub record AreRepairFlags (q : Query) (db : List Table) (flags : List (List Bool)) : Type 0 where
  pub size : length flags ≡ length db
  pub each : (F : ℕ) → F < length q.atoms → HasOneFlagEach (atom_key q F) (rows_of q (stored db) F) (flags_of q flags F)

-- the flags of a table
abbrev pub flags_at : List (List Bool) → ℕ → List Bool
flags_at flags t = slice_index_or flags t []

-- the tables of a query's atoms
abbrev pub tables_in : Query → List ℕ
tables_in q = map (λ atom. atom.table) q.atoms

-- tables of a database, each once
pub record AreTablesOf (db : List Table) (tables : List ℕ) : Type 0 where
  pub there : (t : ℕ) → Contains tables t → t < length db
  pub apart : AreDistinct tables

-- one row is kept of each block of each of some tables
pub record AreTableFlags (db : List Table) (tables : List ℕ) (flags : List (List Bool)) : Type 0 where
  pub size : length flags ≡ length db
  pub each : (t : ℕ) → Contains tables t → HasOneFlagEach (key_at db t) (rows_at db t) (flags_at flags t)

-- these tables have a flag for each row
pub record AreLong (db : List Table) (tables : List ℕ) (flags : List (List Bool)) : Type 0 where
  pub size : length flags ≡ length db
  pub each : (t : ℕ) → Contains tables t → length (flags_at flags t) ≡ length (rows_at db t)

-- and no flag is set
pub record AreBlank (db : List Table) (tables : List ℕ) (flags : List (List Bool)) : Type 0 where
  pub long : AreLong db tables flags
  pub none : (t p : ℕ) → IsFlagged (flags_at flags t) p → ⊥

-- the places of the flags that are set, where the first has this number
abbrev pub places_from : ℕ → List Bool → List ℕ
places_from n [] = []
places_from n (b ∷ bs) = cond b (n ∷ places_from (suc n) bs) (places_from (suc n) bs)
