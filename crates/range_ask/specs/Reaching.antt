-- What is kept of the blocks so far for a least or a greatest value.
use Rattle.std.specs.Prelude.{◌≡◌, ℕ, ◌<◌, Bool, true, false, List, Option, Some, None, length, Contains, slice_set}
use Rattle.std.specs.List.{filter}
use Rattle.std.specs.Option.{option_copied}
use Rattle.cqa_value.specs.declared.value.Value.{Value}
use Rattle.aggregate_range.specs.declared.aggregate.End.{End}
use Rattle.aggregate_range.specs.declared.aggregate.End.TheVariants.{Empty, Held}
use Rattle.range_ask.specs.declared.way.Way.{Way}
use Rattle.range_ask.specs.declared.reach.Reach.{Reach}
use Rattle.range_ask.specs.declared.top.Top.{Top}
use Rattle.range_ask.specs.declared.extremes.Extremes.{Extremes}
use Rattle.range_ask.specs.Ranges.{cell}
use Rattle.range_ask.specs.Picks.{Before, turned, IsExtreme, AvoidsFar, MeetsFar}
use Rattle.range_ask.specs.Finding.{row_in_block}
use Rattle.range_ask.specs.Walking.{rows_of_blocks, wide_of, AreChosenSoFar}
use Rattle.table_blocks.specs.Tables.{rows_in}

-- the row if it meets the tests, and else none
abbrev pub IsIfMet : (List Value → Bool) → List Value → Option (List Value) → Type 0
IsIfMet p x None = p x ≡ false
IsIfMet p x (Some y) = (p x ≡ true) × (x ≡ y)

-- a row's value in a column as an end
abbrev pub as_end : ℕ → Option (List Value) → End
as_end col None = Empty
as_end col (Some row) = Held (cell row col)

-- rows are chosen so, and of those that meet the tests the value of this one lies furthest that way
pub record IsReach (R : List (List Value) → List Value → Type 0) (way : Way) (p : List Value → Bool) (col : ℕ) (rows : List (List Value)) (front : List (List (List Value))) (reach : Reach) : Type 0 where
  pub chosen : AreChosenSoFar R rows front reach.places.items
  pub extreme : IsExtreme way col (filter p (rows_in rows reach.places.items)) (option_copied reach.extreme)

-- the places with that of the row in its block's place
abbrev pub with_top : List ℕ → Option Top → List ℕ
with_top places None = places
with_top places (Some top) = slice_set places top.number top.place

abbrev pub top_row : Option Top → Option (List Value)
top_row None = None
top_row (Some top) = Some top.row.now

-- a row that meets the tests, of the block of a number, whose value lies furthest that way of all that do
pub record IsTopAt (way : Way) (p : List Value → Bool) (col : ℕ) (rows : List (List Value)) (front : List (List (List Value))) (places : List ℕ) (top : Top) : Type 0 where
  pub there : top.number < length places
  pub meets : p (row_in_block rows top.place) ≡ true
  pub is : row_in_block rows top.place ≡ top.row.now
  pub best : (y : List Value) → Contains (rows_of_blocks front) y → p y ≡ true → Before way (cell y col) (cell top.row.now col)
  pub kept : AreChosenSoFar (λ b x. Contains b x) rows front (slice_set places top.number top.place)

-- such a row; or no row meets the tests
abbrev pub IsTop : Way → (List Value → Bool) → ℕ → List (List Value) → List (List (List Value)) → List ℕ → Option Top → Type 0
IsTop way p col rows front places None = (y : List Value) → Contains (rows_of_blocks front) y → p y ≡ false
IsTop way p col rows front places (Some top) = IsTopAt way p col rows front places top

-- the rows that avoid the tests, those that meet them, which of all that meet them lies least far, and which blocks are wide
pub record AreExtremes (way : Way) (p : List Value → Bool) (col : ℕ) (rows : List (List Value)) (front : List (List (List Value))) (ends : Extremes) : Type 0 where
  pub avoids : IsReach (AvoidsFar way p col) way p col rows front ends.avoids
  pub meets : IsReach (MeetsFar way p col) way p col rows front ends.meets
  pub top : IsTop (turned way) p col rows front ends.avoids.places.items ends.top
  pub wide : ends.wide.items ≡ wide_of front
