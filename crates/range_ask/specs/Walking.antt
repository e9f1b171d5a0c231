-- The walk over rows: what was chosen of the blocks so far, and the block that is being read.
use Rattle.std.specs.Prelude.{◌≡◌, ℕ, suc, if◌then◌else◌, ◌*◌, ◌<◌, ◌≤◌, ◌^◌, ◌++◌, List, [], ◌∷◌, length, drop, flat_map, Contains, ℤ, pos, neg_ℤ, ◌≤ℤ◌}
use Rattle.std.specs.List.{AllZip}
use Rattle.std.specs.List.Sorted.{IsStrictlySortedBy}
use Rattle.std.specs.Ordering.{nat_cmp}
use Rattle.cqa_value.specs.declared.value.Value.{Value}
use Rattle.aggregate_range.specs.declared.aggregate.Goal.{Goal}
use Rattle.aggregate_range.specs.declared.aggregate.Goal.TheVariants.{Count, Sum, Min, Max}
use Rattle.range_ask.specs.declared.sums.Side.{Side}
use Rattle.range_ask.specs.declared.sums.Sides.{Sides}
use Rattle.range_ask.specs.Ranges.{total}
use Rattle.range_ask.specs.Picks.{IsCheapest, IsDearest}
use Rattle.row_blocks.specs.Conflicts.{is_conflict}
use Rattle.table_blocks.specs.Tables.{rows_in}

-- the rows of blocks, one behind the other
abbrev pub rows_of_blocks : List (List (List Value)) → List (List Value)
rows_of_blocks blocks = flat_map (λ b. b) blocks

-- the numbers of such blocks, where the first block has a number
abbrev pub wide_from : ℕ → List (List (List Value)) → List ℕ
wide_from n [] = []
wide_from n (block ∷ blocks) = if is_conflict block then n ∷ wide_from (suc n) blocks else wide_from (suc n) blocks

abbrev pub wide_of : List (List (List Value)) → List ℕ
wide_of blocks = wide_from 0 blocks

-- W holds of the blocks before the one that is being read, and B of so many rows of it. The last of these is this one, the block
-- begins at this place of the table, and these rows are left
pub record IsReading (W : List (List (List Value)) → Type 0) (B : List (List Value) → ℕ → Type 0) (all : List (List (List Value))) (left : List (List Value)) (last : List Value) (start read : ℕ) : Type 0 where
  pub front : List (List (List Value))
  pub block : List (List Value)
  pub later : List (List (List Value))
  pub cut : all ≡ front ++ block ∷ later
  pub start_is : start ≡ length (rows_of_blocks front)
  pub begun : 0 < read
  pub read_in : read ≤ length block
  pub left_is : left ≡ drop read block ++ rows_of_blocks later
  pub last_in : Contains block last
  pub before : W front
  pub so_far : B block read

-- the block behind these begins at the place
pub record IsNextBlock (rows : List (List Value)) (front : List (List (List Value))) (block : List (List Value)) (later : List (List (List Value))) (start : ℕ) : Type 0 where
  pub rows_are : rows ≡ rows_of_blocks (front ++ block ∷ later)
  pub start_is : start ≡ length (rows_of_blocks front)
  pub some : 0 < length block

-- places that rise and are among the first blocks' rows; the rows at them are chosen so, one of each block
pub record AreChosenSoFar (R : List (List Value) → List Value → Type 0) (rows : List (List Value)) (front : List (List (List Value))) (places : List ℕ) : Type 0 where
  pub rises : IsStrictlySortedBy nat_cmp places
  pub below : (p : ℕ) → Contains places p → p < length (rows_of_blocks front)
  pub chosen : AllZip R front (rows_in rows places)

-- so many blocks add up to a sum within their bounds
pub record IsWithinBlocks (count : ℕ) (sum : ℤ) : Type 0 where
  pub above : neg_ℤ (pos (count * 2 ^ 63)) ≤ℤ sum
  pub below : sum ≤ℤ pos (count * 2 ^ 63)

-- rows are chosen so, and add up to the total
pub record IsSide (R : List (List Value) → List Value → Type 0) (f : List Value → ℤ) (rows : List (List Value)) (front : List (List (List Value))) (side : Side) : Type 0 where
  pub chosen : AreChosenSoFar R rows front side.places.items
  pub total_is : side.total ≡ total f (rows_in rows side.places.items)
  pub within : IsWithinBlocks (length front) side.total

abbrev pub AreSides : (List Value → ℤ) → List (List Value) → List (List (List Value)) → Sides → Type 0
AreSides f rows front sides = IsSide (IsCheapest f) f rows front sides.low × IsSide (IsDearest f) f rows front sides.high × (sides.wide.items ≡ wide_of front)

-- a goal that adds up
abbrev pub IsTotal : Goal → Type 0
IsTotal Count = Unit {0}
IsTotal (Sum col) = Unit {0}
IsTotal (Min col) = ⊥
IsTotal (Max col) = ⊥
