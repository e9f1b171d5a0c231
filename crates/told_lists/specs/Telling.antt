-- Rows of a database's blocks, told by numbers: the number of a block, and the row's own in it. Rows of blocks of one row may be left out.
use Rattle.std.specs.Prelude.{◌≡◌, ℕ, ◌<◌, ◌↔◌, List, Contains, Option, Some, None, slice_index}
use Rattle.cqa_value.specs.declared.value.Value.{Value}
use Rattle.cqa_model.specs.declared.query.Query.{Query}
use Rattle.cqa_model.specs.declared.query.RowId.{RowId}
use Rattle.cqa_model.specs.Database.{Table}
use Rattle.row_lists.specs.Lists.{IsIn, IsStored, IsOfBlock}
use Rattle.part_search.specs.Parts.{IsOfSome}
use Rattle.block_choices.specs.declared.row.BlockRow.{BlockRow}
use Rattle.block_choices.specs.Choices.{IsThere}

-- a row by its numbers
abbrev pub row_of : ℕ → ℕ → BlockRow
row_of b r = record { block = b; row = r }

-- Exactly the rows of some blocks are told, each by numbers of its own: rows of one block by one number of a block, and from 0 on to its size.
pub record IsTelling (db : List Table) (sizes : List ℕ) (told : RowId → Option BlockRow) : Type 0 where
  pub some : (s : ℕ) → Contains sizes s → 0 < s
  pub within : (id : RowId) (x : BlockRow) → IsStored db id → told id ≡ Some x → IsThere sizes x
  pub block : (m n : RowId) (x y : BlockRow) → IsStored db m → IsStored db n → told m ≡ Some x → told n ≡ Some y → IsOfBlock db m n ↔ (x.block ≡ y.block)
  pub whole : (m n : RowId) (x : BlockRow) → IsStored db m → IsStored db n → told m ≡ Some x → IsOfBlock db m n → (y : BlockRow) × (told n ≡ Some y)
  pub apart : (m n : RowId) (x : BlockRow) → IsStored db m → IsStored db n → told m ≡ Some x → told n ≡ Some x → m ≡ n
  pub every : (b r : ℕ) → r < slice_index sizes b → (id : RowId) × IsStored db id × (told id ≡ Some (row_of b r))

-- a row that isn't told is the only one of its block
abbrev pub IsClean : List Table → (RowId → Option BlockRow) → RowId → Type 0
IsClean db told id = told id ≡ None → (n : RowId) → IsStored db n → IsOfBlock db id n → n ≡ id

-- exactly the told rows of a list, in any order
abbrev pub AreTold : (RowId → Option BlockRow) → List RowId → List BlockRow → Type 0
AreTold told names rows = (x : BlockRow) → Contains rows x ↔ ((id : RowId) × Contains names id × (told id ≡ Some x))

-- each list is told, and nothing else is, in any order; what isn't told of them are rows of blocks of one row
pub record AreListsTold (db : List Table) (told : RowId → Option BlockRow) (all : List (List RowId)) (lists : List (List BlockRow)) : Type 0 where
  pub clean : (id : RowId) → IsIn all id → IsClean db told id
  pub each : (names : List RowId) → Contains all names → (rows : List BlockRow) × Contains lists rows × AreTold told names rows
  pub only : (rows : List BlockRow) → Contains lists rows → (names : List RowId) × Contains all names × AreTold told names rows

-- the same of the witnesses of a row for the parts of a union, each by the names of its rows
pub record AreWitnessesTold (db : List Table) (parts : List Query) (row : List Value) (told : RowId → Option BlockRow) (lists : List (List BlockRow)) : Type 0 where
  pub clean : (names : List RowId) → IsOfSome parts db row names → (id : RowId) → Contains names id → IsClean db told id
  pub each : (names : List RowId) → IsOfSome parts db row names → (rows : List BlockRow) × Contains lists rows × AreTold told names rows
  pub only : (rows : List BlockRow) → Contains lists rows → (names : List RowId) × IsOfSome parts db row names × AreTold told names rows
