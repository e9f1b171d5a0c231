-- Rows whose keys are taken: by a stored row, or by one that stands before.
use Rattle.std.specs.Prelude.{ℕ, ◌+◌, ◌&&◌, not, filter, List, [], ◌∷◌, ◌++◌, map, Option, Some, None, slice_get}
use Rattle.std.specs.Borrow.{Bor}
use Rattle.std.specs.Ordering.{is_lt}
use Rattle.std.specs.List.Sorted.{IsSortedBy}
use Rattle.cqa_value.specs.declared.value.Value.{Value}
use Rattle.cqa_value.specs.Values.{row_eq, row_cmp}
use Rattle.cqa_model.specs.Database.{key_of}
use Rattle.refusals.specs.declared.refusal.Refusal.{Refusal}
use Rattle.refusals.specs.declared.refusal.Refusal.TheVariants.{KeyTaken}
use Rattle.refusals.specs.Refusal.{first_of}
use Rattle.table_blocks.specs.Keys.{same_key}

-- the values that references show
abbrev pub shown : {A : Type 0} → List (Bor A) → List A
shown references = map (λ r. r.now) references

-- rows ascend by their key values
abbrev pub AscendByKey : List ℕ → List (List Value) → Type 0
AscendByKey key rows = IsSortedBy (λ x y. is_lt (row_cmp (key_of key x) (key_of key y))) rows

-- the first of some rows that shares a row's key
abbrev pub first_sharing : List ℕ → List (List Value) → List Value → Option (List Value)
first_sharing key rows row = slice_get (filter (same_key key row) rows) 0

-- the first of some rows that shares a row's key and is another row
abbrev pub first_other : List ℕ → List (List Value) → List Value → Option (List Value)
first_other key rows row = slice_get (filter (λ other. same_key key row other && not (row_eq row other)) rows) 0

-- the row of a number shares its key with a different one, which is kept
abbrev pub taken_by : ℕ → List Value → Option (List Value) → Option Refusal
taken_by number fresh None = None
taken_by number fresh (Some kept) = Some (KeyTaken number kept fresh)

-- of rows that are numbered from one on, the first that shares its key with a different one of those that came before
abbrev pub taken_fault : List ℕ → List (List Value) → ℕ → List (List Value) → Option Refusal
taken_fault key before number [] = None
taken_fault key before number (row ∷ rows) = first_of (taken_by number row (first_other key before row)) (taken_fault key (before ++ row ∷ []) (number + 1) rows)
