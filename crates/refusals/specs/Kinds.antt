-- What is wrong with rows: how many values they have, or of which kinds these are.
use Rattle.std.specs.Prelude.{◌+◌, ◌==◌, ℕ, Bool, true, false, if◌then◌else◌, List, [], ◌∷◌, length, Option, Some, None}
use Rattle.cqa_value.specs.declared.value.Kind.{Kind}
use Rattle.cqa_value.specs.declared.value.Kind.TheVariants.{Int, Text}
use Rattle.cqa_value.specs.declared.value.Value.{Value}
use Rattle.cqa_value.specs.Values.{kind_of}
use Rattle.refusals.specs.declared.refusal.Refusal.{Refusal}
use Rattle.refusals.specs.declared.refusal.Refusal.TheVariants.{WrongArity, TypeMismatch}
use Rattle.refusals.specs.declared.refusal.Place.TheVariants.{Cell}
use Rattle.refusals.specs.Refusal.{first_of}

abbrev pub same_kind : Kind → Kind → Bool
same_kind Int Int = true
same_kind Int Text = false
same_kind Text Int = false
same_kind Text Text = true

-- the value of a row in a column has another kind than the column
abbrev pub cell_fault : ℕ → ℕ → Kind → Value → Option Refusal
cell_fault row column kind value = if same_kind (kind_of value) kind then None else Some (TypeMismatch (Cell row column))

-- the first such fault from a column on
abbrev pub kind_fault : ℕ → ℕ → List Kind → List Value → Option Refusal
kind_fault row column [] values = None
kind_fault row column (kind ∷ kinds) [] = None
kind_fault row column (kind ∷ kinds) (value ∷ values) = first_of (cell_fault row column kind value) (kind_fault row (column + 1) kinds values)

-- what is wrong with the row of a number: how many values it has, or the kind of one
abbrev pub row_fault : List Kind → ℕ → List Value → Option Refusal
row_fault kinds number row = first_of (if length row == length kinds then None else Some (WrongArity number)) (kind_fault number 1 kinds row)

-- the first fault of rows that are numbered from one on
abbrev pub rows_fault : List Kind → ℕ → List (List Value) → Option Refusal
rows_fault kinds number [] = None
rows_fault kinds number (row ∷ rows) = first_of (row_fault kinds number row) (rows_fault kinds (number + 1) rows)
