-- What is found of the first rows of a block.
use Rattle.std.specs.Prelude.{◌≡◌, ℕ, ◌<◌, Bool, true, false, List, [], Option, Some, None, slice_index_or, ℤ, pos, ◌≤ℤ◌}
use Rattle.cqa_value.specs.declared.value.Value.{Value}
use Rattle.aggregate_range.specs.declared.aggregate.Goal.{Goal}
use Rattle.aggregate_range.specs.declared.aggregate.Goal.TheVariants.{Count, Sum, Min, Max}
use Rattle.range_ask.specs.declared.sums.Best.{Best}
use Rattle.range_ask.specs.declared.sums.Open.{Open}
use Rattle.range_ask.specs.declared.way.Way.{Way}
use Rattle.range_ask.specs.declared.found.Met.{Met}
use Rattle.range_ask.specs.declared.found.Spot.{Spot}
use Rattle.range_ask.specs.Ranges.{cell, number_of}
use Rattle.range_ask.specs.Picks.{Before, turned}

abbrev pub row_in_block : List (List Value) → ℕ → List Value
row_in_block rows i = slice_index_or rows i []

-- what a row that meets the tests adds to a count or a sum
abbrev pub added : Goal → List Value → ℤ
added Count row = pos 1
added (Sum col) row = number_of (cell row col)
added (Min col) row = pos 0
added (Max col) row = pos 0

-- of the first n rows the one at the place is worth least, or most, and so much
pub record IsBestLow (f : List Value → ℤ) (rows : List (List Value)) (n : ℕ) (best : Best) : Type 0 where
  pub there : best.at < n
  pub is : best.worth ≡ f (row_in_block rows best.at)
  pub least : (i : ℕ) → i < n → best.worth ≤ℤ f (row_in_block rows i)

pub record IsBestHigh (f : List Value → ℤ) (rows : List (List Value)) (n : ℕ) (best : Best) : Type 0 where
  pub there : best.at < n
  pub is : best.worth ≡ f (row_in_block rows best.at)
  pub most : (i : ℕ) → i < n → f (row_in_block rows i) ≤ℤ best.worth

abbrev pub AreBests : (List Value → ℤ) → List (List Value) → ℕ → Open → Type 0
AreBests f rows n held = IsBestLow f rows n held.least × IsBestHigh f rows n held.most × (held.read ≡ n)

-- of the first n rows the one at the place doesn't meet the tests; or all do
abbrev pub IsMissing : (List Value → Bool) → List (List Value) → ℕ → Option ℕ → Type 0
IsMissing p rows n None = (i : ℕ) → i < n → p (row_in_block rows i) ≡ true
IsMissing p rows n (Some at) = (at < n) × (p (row_in_block rows at) ≡ false)

-- of those that meet them this is one whose value lies furthest that way; or none does
abbrev pub IsFurthest : Way → (List Value → Bool) → ℕ → List (List Value) → ℕ → Option Spot → Type 0
IsFurthest way p col rows n None = (i : ℕ) → i < n → p (row_in_block rows i) ≡ false
IsFurthest way p col rows n (Some spot) = (spot.at < n) × (p (row_in_block rows spot.at) ≡ true) × (row_in_block rows spot.at ≡ spot.row.now)
    × ((i : ℕ) → i < n → p (row_in_block rows i) ≡ true → Before way (cell (row_in_block rows i) col) (cell spot.row.now col))

pub record IsMetSoFar (way : Way) (p : List Value → Bool) (col : ℕ) (rows : List (List Value)) (n : ℕ) (met : Met) : Type 0 where
  pub read_is : met.read ≡ n
  pub missing : IsMissing p rows n met.missing
  pub near : IsFurthest (turned way) p col rows n met.near
  pub far : IsFurthest way p col rows n met.far

-- the place of a row that meets the tests, and itself; that of the first row, which doesn't, where there is none
abbrev pub spot_place : Option Spot → ℕ
spot_place (Some spot) = spot.at
spot_place None = 0

abbrev pub spot_row : Option Spot → Option (List Value)
spot_row (Some spot) = Some spot.row.now
spot_row None = None

-- the same, but a row that doesn't meet the tests comes first
abbrev pub avoided_place : Option ℕ → Option Spot → ℕ
avoided_place (Some at) near = at
avoided_place None near = spot_place near

abbrev pub avoided_row : Option ℕ → Option Spot → Option (List Value)
avoided_row (Some at) near = None
avoided_row None near = spot_row near
