-- The least and the greatest value of values that rows of a table have, where each row may have several and may have none.
use Rattle.std.specs.Prelude.{◌≡◌, ℕ, ◌<◌, Bool, true, false, if◌then◌else◌, nat_eq, nat_lt, List, [], ◌∷◌, Option, Some, None, Contains, slice_index_or}
use Rattle.std.specs.Ordering.{is_lt, is_gt}
use Rattle.std.specs.Borrow.{Bor}
use Rattle.cqa_value.specs.declared.value.Value.{Value}
use Rattle.cqa_value.specs.Values.{value_cmp}
use Rattle.aggregate_range.specs.declared.aggregate.End.{End}
use Rattle.aggregate_range.specs.declared.aggregate.End.TheVariants.{Empty, Number, Held}
use Rattle.cqa_model.specs.Database.{Table}
use Rattle.range_ask.specs.Picks.{IsInBlocks}
use Rattle.cqa_model.specs.declared.query.RowId.{RowId}
use Rattle.row_witnesses.specs.Columns.{place_at}
use Rattle.range_ask.specs.Ranges.{cell, AtMost, IsUpTo}
use Rattle.range_join.specs.declared.carriers.Extreme.{Extreme}
use Rattle.range_join.specs.declared.carriers.Extreme.TheVariants.{Least, Greatest}
use Rattle.range_join.specs.declared.peaks.Peaks.{Peaks}
use Rattle.range_join.specs.Firsts.{blocks_at, AreFirsts, AreSpots}

-- one value lies no further that way than another
abbrev pub NoFurther : Extreme → Value → Value → Type 0
NoFurther Least x y = AtMost y x
NoFurther Greatest x y = AtMost x y

-- a value lies less far that way than another; no value lies less far than each value
abbrev pub lags : Extreme → Option Value → Option Value → Bool
lags way a None = false
lags way None (Some y) = true
lags Least (Some x) (Some y) = is_gt (value_cmp x y)
lags Greatest (Some x) (Some y) = is_lt (value_cmp x y)

-- the one of two that lies further, and the first where none does
abbrev pub further : Extreme → Option Value → Option Value → Option Value
further way a b = if lags way a b then b else a

-- of these values this one lies furthest that way; or there is none
abbrev pub IsPeak : Extreme → (Value → Type 0) → Option Value → Type 0
IsPeak way has None = (v : Value) → has v → ⊥
IsPeak way has (Some v) = has v × ((u : Value) → has u → NoFurther way u v)

-- a value of one of the places
abbrev pub HasSome : (ℕ → Value → Type 0) → List ℕ → Value → Type 0
HasSome has places v = (p : ℕ) × Contains places p × has p v

-- a value as an end
abbrev pub value_end : Option Value → End
value_end None = Empty
value_end (Some v) = Held v

-- the end is the value that lies furthest that way of those of the places
abbrev pub HasEnd : Extreme → (ℕ → Value → Type 0) → List ℕ → End → Type 0
HasEnd way has places Empty = IsPeak way (HasSome has places) None
HasEnd way has places (Number n) = ⊥
HasEnd way has places (Held v) = IsPeak way (HasSome has places) (Some v)

-- the one that lies furthest of the first value and those of places
abbrev pub peak_from : Extreme → Option Value → (ℕ → Option Value) → List ℕ → Option Value
peak_from way first best [] = first
peak_from way first best (p ∷ places) = peak_from way (further way first (best p)) best places

-- the value that a witness gives: that of its row of an atom, out of these rows, in a column
abbrev pub given_by : List (List Value) → ℕ → ℕ → List RowId → Value
given_by rows atom col names = cell (slice_index_or rows (place_at names atom) []) col

-- one of the witnesses has the row at a place of the lax atom's table, and gives the value
abbrev pub GivesValue : List (List Value) → List (List RowId) → ℕ → ℕ → ℕ → ℕ → Value → Type 0
GivesValue rows all lax atom col p v = (names : List RowId) × Contains all names × (place_at names lax ≡ p) × (given_by rows atom col names ≡ v)

-- the value of a row in a column, if there is a row
abbrev pub held_value : ℕ → Option (Bor (List Value)) → Option Value
held_value col None = None
held_value col (Some row) = Some (cell row.now col)

-- that of the row that is stored for a place
abbrev pub best_at : ℕ → List (Option (Bor (List Value))) → ℕ → Option Value
best_at col bests p = held_value col (slice_index_or bests p None)

-- for each place of a table the value that lies furthest that way of those that it has
abbrev pub AreBest : Extreme → (ℕ → Value → Type 0) → ℕ → (ℕ → Option Value) → Type 0
AreBest way has n best = (p : ℕ) → p < n → IsPeak way (has p) (best p)

-- one place comes first, then those without a value
abbrev pub rank_of : {A : Type 0} → Option A → ℕ
rank_of None = 1
rank_of (Some x) = 2

abbrev pub rank : ℕ → (ℕ → Option Value) → ℕ → ℕ
rank top best p = if nat_eq p top then 0 else rank_of (best p)

-- none of the first n places has a value that lies further that way than that of this one
abbrev pub IsTopPlace : Extreme → (ℕ → Option Value) → ℕ → ℕ → Type 0
IsTopPlace way best n top = (p : ℕ) → p < n → lags way (best top) (best p) ≡ false

-- of each block the place whose value lies least far that way, and the one whose value lies furthest
abbrev pub AreNearest : Extreme → (ℕ → Option Value) → List Table → ℕ → List ℕ → Type 0
AreNearest way best db table places = AreFirsts (λ p q. lags way (best p) (best q)) db table places

abbrev pub AreFurthest : Extreme → (ℕ → Option Value) → List Table → ℕ → List ℕ → Type 0
AreFurthest way best db table places = AreFirsts (λ p q. lags way (best q) (best p)) db table places

-- of each block the place that is ranked first
abbrev pub AreAlone : ℕ → (ℕ → Option Value) → List Table → ℕ → List ℕ → Type 0
AreAlone top best db table places = AreFirsts (λ p q. nat_lt (rank top best p) (rank top best q)) db table places

-- both ends, for each the places of rows, one of each block
pub record EndPlaces : Type 0 where
  pub least : End
  pub low : List ℕ
  pub greatest : End
  pub high : List ℕ

-- those that were found
abbrev pub end_places : Peaks → EndPlaces
end_places peaks = record { least = peaks.least; low = peaks.low.items; greatest = peaks.greatest; high = peaks.high.items }

-- the least greatest value is that of the places whose values are least, and the greatest one that of those whose values are greatest
pub record IsGreatestChoice (best : ℕ → Option Value) (db : List Table) (table : ℕ) (ends : EndPlaces) : Type 0 where
  pub low : AreNearest Greatest best db table ends.low
  pub high : AreFurthest Greatest best db table ends.high
  pub least : ends.least ≡ value_end (peak_from Greatest None best ends.low)
  pub greatest : ends.greatest ≡ value_end (peak_from Greatest None best ends.high)

-- where the places whose values are greatest, or that have none, have a value together: it is the greatest least one
pub record IsSureChoice (best : ℕ → Option Value) (db : List Table) (table : ℕ) (value : Value) (high : List ℕ) (ends : EndPlaces) : Type 0 where
  pub low : AreFurthest Least best db table ends.low
  pub high_is : ends.high ≡ high
  pub least : ends.least ≡ value_end (peak_from Least None best ends.low)
  pub greatest : ends.greatest ≡ Held value

-- where they have none there is no least value, and the greatest of all is least where no other block has one
pub record IsLooseChoice (best : ℕ → Option Value) (n : ℕ) (db : List Table) (table : ℕ) (low : List ℕ) (ends : EndPlaces) : Type 0 where
  pub top : ℕ
  pub is_top : IsTopPlace Greatest best n top
  pub high : AreAlone top best db table ends.high
  pub low_is : ends.low ≡ low
  pub least : ends.least ≡ Empty
  pub greatest : ends.greatest ≡ value_end (best top)

-- the one or the other
abbrev pub IsLeastBy : (ℕ → Option Value) → ℕ → List Table → ℕ → List ℕ → Option Value → EndPlaces → Type 0
IsLeastBy best n db table near None ends = IsLooseChoice best n db table near ends
IsLeastBy best n db table near (Some value) ends = IsSureChoice best db table value near ends

pub record IsLeastChoice (best : ℕ → Option Value) (n : ℕ) (db : List Table) (table : ℕ) (ends : EndPlaces) : Type 0 where
  pub near : List ℕ
  pub near_are : AreNearest Least best db table near
  pub by_near : IsLeastBy best n db table near (peak_from Least None best near) ends

-- both ends are had by one place of each block, and whichever place is taken of each block, its end lies between them
pub record ArePeaks (db : List Table) (table : ℕ) (way : Extreme) (has : ℕ → Value → Type 0) (ends : EndPlaces) : Type 0 where
  pub parted : IsInBlocks db table (blocks_at db table)
  pub low_there : AreSpots db table ends.low
  pub high_there : AreSpots db table ends.high
  pub least_is : HasEnd way has ends.low ends.least
  pub greatest_is : HasEnd way has ends.high ends.greatest
  pub between : (places : List ℕ) (end : End) → AreSpots db table places → HasEnd way has places end → IsUpTo ends.least end × IsUpTo end ends.greatest
