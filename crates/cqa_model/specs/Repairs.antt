-- Repairs: what is left of a database when each block keeps exactly one of its rows (Koutris and Wijsen, ACM TODS 2017).
use Rattle.std.specs.Prelude.{◌≡◌, ℕ, ◌<◌, ◌⊎◌, List, [], ◌∷◌, length, Contains, slice_index_or}
use Rattle.cqa_value.specs.declared.value.Value.{Value}
use Rattle.cqa_model.specs.Database.{Table, stored, keys_of}
pub use Rattle.cqa_model.specs.Database.{SharesKey}

-- some of the rows, in their order
abbrev pub IsSublist : List (List Value) → List (List Value) → Type 0
IsSublist [] ys = Unit {0}
IsSublist (x ∷ xs) [] = ⊥
IsSublist (x ∷ xs) (y ∷ ys) = ((x ≡ y) × IsSublist xs ys) ⊎ IsSublist (x ∷ xs) ys

-- of the rows that share x's key, exactly one
pub record HasOne (key : List ℕ) (rows : List (List Value)) (x : List Value) : Type 0 where
  pub row : List Value
  pub is_kept : Contains rows row
  pub shares : SharesKey key x row
  pub only : (y : List Value) → Contains rows y → SharesKey key x y → y ≡ row

-- a sublist of a table's rows that keeps exactly one row of each block
pub record IsTableRepair (key : List ℕ) (rows kept : List (List Value)) : Type 0 where
  pub stored : IsSublist kept rows
  pub one : (x : List Value) → Contains rows x → HasOne key kept x

-- tables with these keys and rows, repaired one by one
pub record IsRepairBy (keys : List (List ℕ)) (tables kept : List (List (List Value))) : Type 0 where
  pub size : length kept ≡ length tables
  pub each : (t : ℕ) → t < length tables → IsTableRepair (slice_index_or keys t []) (slice_index_or tables t []) (slice_index_or kept t [])

-- for each table of a database, the rows that are kept
abbrev pub IsRepair : List Table → List (List (List Value)) → Type 0
IsRepair db kept = IsRepairBy (keys_of db) (stored db) kept
