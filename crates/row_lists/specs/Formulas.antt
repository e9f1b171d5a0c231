-- The formula of lists. A row of a relevant block is a variable, and the variables are numbered from 1, by tables in the order of
-- a frame and then in block order.
use Rattle.std.specs.Prelude.{◌≡◌, ℕ, ◌<◌, ◌↔◌, List, length, Contains, slice_index_or}
use Rattle.std.specs.List.{AllZip}
use Rattle.std.specs.Ordering.{nat_cmp}
use Rattle.std.specs.List.Sorted.{IsStrictlySortedBy}
use Rattle.cqa_model.specs.declared.query.RowId.{RowId}
use Rattle.cqa_model.specs.Database.{Table}
use Rattle.row_lists.specs.Clauses.{Variable, variable_cmp, HasNumber, AreAllLists, Formula}
use Rattle.row_lists.specs.Lists.{name, IsIn, IsStored, IsOfBlock}

-- the table at a place of a frame
abbrev pub table_at : List ℕ → ℕ → ℕ
table_at frame slot = slice_index_or frame slot 0

-- a frame has tables of a database, each once
pub record IsFrame (db : List Table) (frame : List ℕ) : Type 0 where
  pub there : (s : ℕ) → s < length frame → table_at frame s < length db
  pub apart : (s t : ℕ) → s < length frame → t < length frame → table_at frame s ≡ table_at frame t → s ≡ t

-- each name of the lists is of a table of the frame
abbrev pub AreWithin : List ℕ → List (List RowId) → Type 0
AreWithin frame lists = (id : RowId) → IsIn lists id → (s : ℕ) × (s < length frame) × (table_at frame s ≡ id.table)

-- the name of a variable's row
abbrev pub name_in : List ℕ → Variable → RowId
name_in frame x = name (table_at frame x.slot) x.place

-- the block of a stored row has a row of one of the lists
abbrev pub IsRelevantTo : List Table → List (List RowId) → RowId → Type 0
IsRelevantTo db lists id = (n : RowId) × IsIn lists n × IsOfBlock db id n

-- exactly the rows of relevant blocks
pub record AreVariables (db : List Table) (frame : List ℕ) (lists : List (List RowId)) (variables : List Variable) : Type 0 where
  pub in_order : IsStrictlySortedBy variable_cmp variables
  pub exactly : (x : Variable) → Contains variables x ↔ ((x.slot < length frame) × (IsStored db (name_in frame x) × IsRelevantTo db lists (name_in frame x)))

-- the number of a name's row
abbrev pub HasNumberOf : List ℕ → List Variable → RowId → ℕ → Type 0
HasNumberOf frame variables id n = (x : Variable) × HasNumber variables n x × (name_in frame x ≡ id)

-- the numbers of the rows of a variable's block, rising
pub record IsBlockOf (db : List Table) (frame : List ℕ) (variables : List Variable) (x : Variable) (numbers : List ℕ) : Type 0 where
  pub rises : IsStrictlySortedBy nat_cmp numbers
  pub exactly : (n : ℕ) → Contains numbers n ↔ ((y : Variable) × HasNumber variables n y × IsOfBlock db (name_in frame x) (name_in frame y))

abbrev pub IsBlock : List Table → List ℕ → List Variable → List ℕ → Type 0
IsBlock db frame variables numbers = (x : Variable) × Contains variables x × IsBlockOf db frame variables x numbers

-- the numbers of the rows of a list, rising and each once
pub record AreNumbersOf (frame : List ℕ) (variables : List Variable) (names : List RowId) (numbers : List ℕ) : Type 0 where
  pub rises : IsStrictlySortedBy nat_cmp numbers
  pub exactly : (n : ℕ) → Contains numbers n ↔ ((id : RowId) × Contains names id × HasNumberOf frame variables id n)

-- the formula of lists: their relevant blocks in order, and their numbers, list by list
pub record IsFormulaOf (db : List Table) (frame : List ℕ) (lists : List (List RowId)) (f : Formula) : Type 0 where
  pub variables : AreVariables db frame lists f.variables
  pub blocks : AreAllLists (IsBlock db frame f.variables) f.blocks
  pub witnesses : AllZip (AreNumbersOf frame f.variables) lists f.witnesses
