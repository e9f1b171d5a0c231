-- Frames: the tables whose rows are numbered, in this order, and the slot of each table, which is its place among them.
use Rattle.std.specs.Prelude.{◌≡◌, ℕ, ◌<◌, ◌↔◌, List, [], length, Contains, slice_index, slice_index_or}
use Rattle.cqa_model.specs.declared.query.RowId.{RowId}
use Rattle.row_lists.specs.Formulas.{table_at}
use Rattle.row_lists.specs.Lists.{IsIn, name}

-- each table of a frame has its slot
pub record AreSlots (frame slots : List ℕ) : Type 0 where
  pub there : (s : ℕ) → s < length frame → table_at frame s < length slots
  pub slot : (s : ℕ) → s < length frame → slice_index slots (table_at frame s) ≡ s

-- the table is one of the frame, at its slot
abbrev pub IsInFrame : List ℕ → List ℕ → ℕ → Type 0
IsInFrame frame slots t = (slice_index slots t < length frame) × (table_at frame (slice_index slots t) ≡ t)

-- all names of the lists are of tables of the frame
abbrev pub AreInFrame : List ℕ → List ℕ → List (List RowId) → Type 0
AreInFrame frame slots lists = (id : RowId) → IsIn lists id → IsInFrame frame slots id.table

-- exactly the places that rows of a table have in the lists, in order, each once
pub record AreTablePlaces (lists : List (List RowId)) (table : ℕ) (places : List ℕ) : Type 0 where
  pub in_order : (i j : ℕ) → i < j → j < length places → slice_index places i < slice_index places j
  pub exactly : (p : ℕ) → Contains places p ↔ IsIn lists (name table p)

-- of the table of each slot, as far as there are lists, these places
abbrev pub AreColumnsOfFrame : List ℕ → List (List RowId) → List (List ℕ) → Type 0
AreColumnsOfFrame frame lists columns = (s : ℕ) → s < length columns → AreTablePlaces lists (table_at frame s) (slice_index_or columns s [])
