-- Ranges of aggregates over one table: what value an aggregate has, and between which ends it lies in every repair
-- (Arenas and others, Scalar aggregation in inconsistent databases, Theoretical Computer Science 2003).
use Rattle.std.specs.Prelude.{◌≡◌, ◌≢◌, ℕ, Bool, true, not, ◌&&◌, List, [], ◌∷◌, length, Contains, slice_index_or, ℤ, pos, ◌+ℤ◌, ◌≤ℤ◌}
use Rattle.std.specs.List.{filter}
use Rattle.std.specs.List.Sorted.{IsStrictlySortedBy}
use Rattle.std.specs.Ordering.{nat_cmp, is_lt, is_gt}
use Rattle.std.specs.declared.cmp.Ordering.TheVariants.{Greater}
use Rattle.cqa_value.specs.declared.value.Value.{Value}
use Rattle.cqa_value.specs.declared.value.Value.TheVariants.{Int, Text}
use Rattle.cqa_value.specs.Values.{value_cmp, value_eq}
use Rattle.aggregate_range.specs.declared.aggregate.Goal.{Goal}
use Rattle.aggregate_range.specs.declared.aggregate.Goal.TheVariants.{Count, Sum, Min, Max}
use Rattle.aggregate_range.specs.declared.aggregate.End.{End}
use Rattle.aggregate_range.specs.declared.aggregate.End.TheVariants.{Empty, Number, Held}
use Rattle.cqa_model.specs.declared.query.Op.{Op}
use Rattle.cqa_model.specs.declared.query.Op.TheVariants.{Eq, Ne, Lt, Le, Gt, Ge}
use Rattle.cqa_model.specs.declared.query.RowId.{RowId}
use Rattle.cqa_model.specs.Database.{Table, nothing}
use Rattle.cqa_model.specs.Repairs.{IsTableRepair}
use Rattle.table_blocks.specs.declared.test.ColumnTest.{ColumnTest}
use Rattle.table_blocks.specs.Tables.{rows_at, key_at, rows_in, names_in}
use Rattle.range_ask.specs.declared.range.Range.{Range}

-- a row's value in a column
abbrev pub cell : List Value → ℕ → Value
cell row col = slice_index_or row col nothing

-- a value stands so to another
abbrev pub op_passes : Op → Value → Value → Bool
op_passes Eq x y = value_eq x y
op_passes Ne x y = not (value_eq x y)
op_passes Lt x y = is_lt (value_cmp x y)
op_passes Le x y = not (is_gt (value_cmp x y))
op_passes Gt x y = is_gt (value_cmp x y)
op_passes Ge x y = not (is_lt (value_cmp x y))

-- a row meets all tests
abbrev pub meets : List ColumnTest → List Value → Bool
meets [] row = true
meets (test ∷ tests) row = op_passes test.op (cell row test.col) test.value && meets tests row

-- the part of a repair that counts: its rows that meet the tests
abbrev pub part : List ColumnTest → List (List Value) → List (List Value)
part tests kept = filter (meets tests) kept

-- the number that an integer is; a text is none, and counts as 0
abbrev pub number_of : Value → ℤ
number_of (Int n) = n
number_of (Text bytes) = pos 0

-- what rows add up to, each worth a number
abbrev pub total : (List Value → ℤ) → List (List Value) → ℤ
total f [] = pos 0
total f (row ∷ rows) = f row +ℤ total f rows

-- one value isn't above another
abbrev pub AtMost : Value → Value → Type 0
AtMost x y = value_cmp x y ≢ Greater

-- the least value of a column in rows; none where there are no rows
abbrev pub IsLeastValue : ℕ → List (List Value) → End → Type 0
IsLeastValue col rows Empty = rows ≡ []
IsLeastValue col rows (Number n) = ⊥
IsLeastValue col rows (Held v) = ((row : List Value) × Contains rows row × (cell row col ≡ v)) × ((row : List Value) → Contains rows row → AtMost v (cell row col))

-- the greatest
abbrev pub IsGreatestValue : ℕ → List (List Value) → End → Type 0
IsGreatestValue col rows Empty = rows ≡ []
IsGreatestValue col rows (Number n) = ⊥
IsGreatestValue col rows (Held v) = ((row : List Value) × Contains rows row × (cell row col ≡ v)) × ((row : List Value) → Contains rows row → AtMost (cell row col) v)

-- the value of an aggregate over rows
abbrev pub HasValue : Goal → List (List Value) → End → Type 0
HasValue Count rows end = end ≡ Number (pos (length rows))
HasValue (Sum col) rows end = end ≡ Number (total (λ row. number_of (cell row col)) rows)
HasValue (Min col) rows end = IsLeastValue col rows end
HasValue (Max col) rows end = IsGreatestValue col rows end

-- one end isn't above another: no value is below each value; numbers are compared by size, values by their order
abbrev pub IsUpTo : End → End → Type 0
IsUpTo Empty b = Unit {0}
IsUpTo (Number m) Empty = ⊥
IsUpTo (Number m) (Number n) = m ≤ℤ n
IsUpTo (Number m) (Held y) = ⊥
IsUpTo (Held x) Empty = ⊥
IsUpTo (Held x) (Number n) = ⊥
IsUpTo (Held x) (Held y) = AtMost x y

-- the names are those of a repair of the table, in block order, and this is its value
pub record IsAttained (db : List Table) (table : ℕ) (goal : Goal) (tests : List ColumnTest) (names : List RowId) (end : End) : Type 0 where
  pub places : List ℕ
  pub named : names ≡ names_in table places
  pub rises : IsStrictlySortedBy nat_cmp places
  pub repair : IsTableRepair (key_at db table) (rows_at db table) (rows_in (rows_at db table) places)
  pub value : HasValue goal (part tests (rows_in (rows_at db table) places)) end

-- both ends are values of the repairs that are named, and each repair's value lies between them
pub record IsRange (db : List Table) (table : ℕ) (goal : Goal) (tests : List ColumnTest) (range : Range) : Type 0 where
  pub from : IsAttained db table goal tests range.low range.least
  pub to : IsAttained db table goal tests range.high range.greatest
  pub between : (kept : List (List Value)) (end : End) → IsTableRepair (key_at db table) (rows_at db table) kept → HasValue goal (part tests kept) end → IsUpTo range.least end × IsUpTo end range.greatest
