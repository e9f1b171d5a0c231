-- What is kept of a group while blocks are read: what its rows add up to, or which of its values are extreme.
use Rattle.std.specs.Prelude.{◌≡◌, ◌⊎◌, ℕ, suc, ◌<◌, ◌≤◌, Bool, true, false, List, [], ◌∷◌, ◌++◌, length, take, Option, Some, None, Contains, ℤ, pos, ◌+ℤ◌, ◌≤ℤ◌}
use Rattle.std.specs.List.{AllZip, filter}
use Rattle.std.specs.Option.{option_copied}
use Rattle.std.specs.BTreeMap.{BTreeMap, get}
use Rattle.cqa_value.specs.declared.value.Value.{Value}
use Rattle.cqa_value.specs.Values.{value_cmp}
use Rattle.aggregate_range.specs.declared.aggregate.Goal.{Goal}
use Rattle.aggregate_range.specs.declared.aggregate.Goal.TheVariants.{Count, Sum, Min, Max}
use Rattle.aggregate_range.specs.declared.aggregate.End.{End}
use Rattle.cqa_model.specs.declared.limits.TheConstants.{MOST_ROWS}
use Rattle.aggregate_range.specs.declared.aggregate.End.TheVariants.{Empty, Number, Held}
use Rattle.table_blocks.specs.declared.test.ColumnTest.{ColumnTest}
use Rattle.range_ask.specs.declared.way.Way.{Way}
use Rattle.range_ask.specs.declared.way.Way.TheVariants.{Up, Down}
use Rattle.range_ask.specs.declared.total.Turn.{Turn}
use Rattle.range_ask.specs.declared.total.Total.{Total}
use Rattle.range_ask.specs.declared.peak.Peak.{Peak}
use Rattle.range_ask.specs.declared.tally.Tally.{Tally}
use Rattle.range_ask.specs.declared.groups.Group.{Group}
use Rattle.range_ask.specs.declared.tally.Tally.TheVariants as tallies
use Rattle.range_ask.specs.Ranges.{cell, meets, total}
use Rattle.range_ask.specs.Groups.{tests_with}
use Rattle.range_ask.specs.Picks.{worth, turned, IsCheapest, IsDearest, IsExtreme, AvoidsFar}
use Rattle.range_ask.specs.Finding.{added, row_in_block}
use Rattle.range_ask.specs.Walking.{rows_of_blocks, IsWithinBlocks}
use Rattle.range_ask.specs.Reaching.{as_end, IsIfMet}

-- a block is sure: its rows are of a group all together or not at all; or a row of it isn't of the group
pub record IsSureOf (sure : Bool) (p : List Value → Bool) (block : List (List Value)) : Type 0 where
  pub together : sure ≡ true → (x y : List Value) → Contains block x → Contains block y → p x ≡ true → p y ≡ true
  pub misses : sure ≡ false → (y : List Value) × Contains block y × (p y ≡ false)

-- no row of a block's first n is of the group
abbrev pub NoneOf : (List Value → Bool) → List (List Value) → ℕ → Type 0
NoneOf p block n = (i : ℕ) → i < n → p (row_in_block block i) ≡ false

-- one of two numbers, in such an order with both
pub record IsEither (Le : ℤ → ℤ → Type 0) (a b c : ℤ) : Type 0 where
  pub one : (c ≡ a) ⊎ (c ≡ b)
  pub first : Le c a
  pub second : Le c b

abbrev pub AtMostℤ : ℤ → ℤ → Type 0
AtMostℤ m n = m ≤ℤ n

abbrev pub AtLeastℤ : ℤ → ℤ → Type 0
AtLeastℤ m n = n ≤ℤ m

-- ---- sums

-- rows are picked so, one of each block, and add up to the number
pub record IsSum (R : List (List Value) → List Value → Type 0) (f : List Value → ℤ) (front : List (List (List Value))) (n : ℤ) : Type 0 where
  pub picks : List (List Value)
  pub picked : AllZip R front picks
  pub is : n ≡ total f picks
  pub within : IsWithinBlocks (length front) n

-- both sums over the blocks so far
pub record AreSums (f : List Value → ℤ) (front : List (List (List Value))) (t : Total) : Type 0 where
  pub low : IsSum (IsCheapest f) f front (t.low +ℤ t.least)
  pub high : IsSum (IsDearest f) f front (t.high +ℤ t.most)
  pub early : t.number ≤ length front

-- what the block that is being read adds to a sum: what a row of it is worth, in such an order with the first n rows; and with 0 if a
-- row of the block isn't of the group
pub record IsOpenPart (Le : ℤ → ℤ → Type 0) (f : List Value → ℤ) (sure : Bool) (block : List (List Value)) (n : ℕ) (part : ℤ) : Type 0 where
  pub small : IsWithinBlocks 1 part
  pub there : (y : List Value) × Contains block y × (f y ≡ part)
  pub bound : (i : ℕ) → i < n → Le part (f (row_in_block block i))
  pub loose : sure ≡ false → Le part (pos 0)

-- both sums over the blocks before, and both parts of the block
pub record AreOpenSums (f : List Value → ℤ) (p : List Value → Bool) (sure : Bool) (front : List (List (List Value))) (block : List (List Value)) (n : ℕ) (t : Total) : Type 0 where
  pub number_is : t.number ≡ suc (length front)
  pub low : IsSum (IsCheapest f) f front t.low
  pub high : IsSum (IsDearest f) f front t.high
  pub least : IsOpenPart AtMostℤ f sure block n t.least
  pub most : IsOpenPart AtLeastℤ f sure block n t.most
  pub all : sure ≡ true → (y : List Value) → Contains block y → p y ≡ true

-- no row of the block was of the group so far, or some was
abbrev pub AreAdding : (List Value → ℤ) → (List Value → Bool) → Bool → List (List (List Value)) → List (List Value) → ℕ → Total → Type 0
AreAdding f p sure front block n t = (AreSums f front t × NoneOf p block n) ⊎ AreOpenSums f p sure front block n t

-- ---- extreme values

-- rows that avoid the group where they can, one of each block, and of those that are of the group this one's value lies furthest
pub record IsGroupReached (way : Way) (p : List Value → Bool) (col : ℕ) (front : List (List (List Value))) (row : Option (List Value)) : Type 0 where
  pub picks : List (List Value)
  pub picked : AllZip (AvoidsFar way p col) front picks
  pub is : IsExtreme way col (filter p picks) row

pub record IsPeakSettled (way : Way) (p : List Value → Bool) (col : ℕ) (front : List (List (List Value))) (t : Peak) : Type 0 where
  pub sure : IsGroupReached way p col front (option_copied t.sure)
  pub early : t.number ≤ length front

-- one row more, if it is of the group
abbrev pub Furthers : Way → ℕ → Option (List Value) → Option (List Value) → Option (List Value) → Type 0
Furthers way col best next new = (p : List Value → Bool) (xs : List (List Value)) (x : List Value) → IsExtreme way col (filter p xs) best → IsIfMet p x next → IsExtreme way col (filter p (xs ++ x ∷ [])) new

-- what was known before a block, and of a sure block the row that lies least far, after a row more of it
pub record IsNearer (way : Way) (col : ℕ) (turn : Turn) (row : List Value) (old : Peak) (before near : Option (List Value)) : Type 0 where
  pub before_same : old.number ≡ turn.number → before ≡ option_copied old.before
  pub before_other : (old.number ≡ turn.number → ⊥) → before ≡ option_copied old.sure
  pub none : turn.sure ≡ false → near ≡ None
  pub near_same : turn.sure ≡ true → old.number ≡ turn.number → Furthers (turned way) col (option_copied old.near) (Some row) near
  pub near_other : turn.sure ≡ true → (old.number ≡ turn.number → ⊥) → near ≡ Some row

-- the block that is being read gave rows of the group; of a sure one, that which lies least far
pub record IsPeaking (way : Way) (p : List Value → Bool) (col : ℕ) (sure : Bool) (front : List (List (List Value))) (block : List (List Value)) (n : ℕ) (t : Peak) : Type 0 where
  pub number_is : t.number ≡ suc (length front)
  pub before : IsGroupReached way p col front (option_copied t.before)
  pub near : sure ≡ true → IsExtreme (turned way) col (filter p (take n block)) (option_copied t.near)
  pub none : sure ≡ false → option_copied t.near ≡ None
  pub sure_is : Furthers way col (option_copied t.before) (option_copied t.near) (option_copied t.sure)
  pub all : sure ≡ true → (y : List Value) → Contains block y → p y ≡ true

-- the extreme values of all rows that were read
pub record AreFar (way : Way) (p : List Value → Bool) (col : ℕ) (rows_so_far : List (List Value)) (t : Peak) : Type 0 where
  pub far : IsExtreme way col (filter p rows_so_far) (option_copied t.far)
  pub top : IsExtreme (turned way) col (filter p rows_so_far) (option_copied t.top)

-- ---- either, as the aggregate asks

-- a group of which no row was read
abbrev pub no_total : Total
no_total = record { number = 0; low = pos 0; high = pos 0; least = pos 0; most = pos 0 }

abbrev pub no_peak : Peak
no_peak = record { number = 0; before = None; near = None; sure = None; far = None; top = None }

abbrev pub total_of : Option Tally → Total
total_of None = no_total
total_of (Some (tallies.Total t)) = t
total_of (Some (tallies.Peak t)) = no_total

abbrev pub peak_of : Option Tally → Peak
peak_of None = no_peak
peak_of (Some (tallies.Total t)) = no_peak
peak_of (Some (tallies.Peak t)) = t

-- what is kept of a group after whole blocks
abbrev pub IsWhole : Goal → (List Value → Bool) → List (List (List Value)) → Option Tally → Type 0
IsWhole Count p front o = AreSums (worth p (added Count)) front (total_of o)
IsWhole (Sum col) p front o = AreSums (worth p (added (Sum col))) front (total_of o)
IsWhole (Min col) p front o = IsPeakSettled Down p col front (peak_of o) × AreFar Down p col (rows_of_blocks front) (peak_of o)
IsWhole (Max col) p front o = IsPeakSettled Up p col front (peak_of o) × AreFar Up p col (rows_of_blocks front) (peak_of o)

-- the rows of the blocks so far, and so many of the next one
abbrev pub rows_so_far : List (List (List Value)) → List (List Value) → ℕ → List (List Value)
rows_so_far front block n = rows_of_blocks front ++ take n block

-- and while one is read
abbrev pub IsPartly : Goal → (List Value → Bool) → Bool → List (List (List Value)) → List (List Value) → ℕ → Option Tally → Type 0
IsPartly Count p sure front block n o = AreAdding (worth p (added Count)) p sure front block n (total_of o)
IsPartly (Sum col) p sure front block n o = AreAdding (worth p (added (Sum col))) p sure front block n (total_of o)
IsPartly (Min col) p sure front block n o = ((IsPeakSettled Down p col front (peak_of o) × NoneOf p block n) ⊎ IsPeaking Down p col sure front block n (peak_of o)) × AreFar Down p col (rows_so_far front block n) (peak_of o)
IsPartly (Max col) p sure front block n o = ((IsPeakSettled Up p col front (peak_of o) × NoneOf p block n) ⊎ IsPeaking Up p col sure front block n (peak_of o)) × AreFar Up p col (rows_so_far front block n) (peak_of o)

-- there is something kept of a group exactly if a row of it was read
abbrev pub IsKnownGroup : (List Value → Bool) → List (List Value) → Option Tally → Type 0
IsKnownGroup p rows None = filter p rows ≡ []
IsKnownGroup p rows (Some t) = (y : List Value) × Contains (filter p rows) y

abbrev pub IsTallied : Goal → (List Value → Bool) → List (List (List Value)) → Option Tally → Type 0
IsTallied goal p front o = IsKnownGroup p (rows_of_blocks front) o × IsWhole goal p front o

abbrev pub IsTallying : Goal → (List Value → Bool) → Bool → List (List (List Value)) → List (List Value) → ℕ → Option Tally → Type 0
IsTallying goal p sure front block n o = IsKnownGroup p (rows_so_far front block n) o × IsPartly goal p sure front block n o

-- so it is with the next row of a block, which is of the group
abbrev pub IsMore : Goal → Turn → List Value → Option Tally → Tally → Type 0
IsMore goal turn row old new =
    (p : List Value → Bool) (front : List (List (List Value))) (block : List (List Value)) (n : ℕ) → turn.number ≡ suc (length front) → IsSureOf turn.sure p block → n < length block → row_in_block block n ≡ row → p row ≡ true →
    IsTallying goal p turn.sure front block n old → IsTallying goal p turn.sure front block (suc n) (Some new)

-- ---- the ends

-- those of a least value, where a row that every repair keeps for the group is given: without one the least is none
abbrev pub least_low : ℕ → Option (List Value) → Peak → End
least_low col None t = Empty
least_low col (Some row) t = as_end col (option_copied t.far)

abbrev pub least_high : ℕ → Option (List Value) → Peak → End
least_high col None t = as_end col (option_copied t.top)
least_high col (Some row) t = Held (cell row col)

abbrev pub low_end : Goal → Tally → End
low_end Count tally = let t = total_of (Some tally) in Number (t.low +ℤ t.least)
low_end (Sum col) tally = let t = total_of (Some tally) in Number (t.low +ℤ t.least)
low_end (Min col) tally = let t = peak_of (Some tally) in least_low col (option_copied t.sure) t
low_end (Max col) tally = let t = peak_of (Some tally) in as_end col (option_copied t.sure)

abbrev pub high_end : Goal → Tally → End
high_end Count tally = let t = total_of (Some tally) in Number (t.high +ℤ t.most)
high_end (Sum col) tally = let t = total_of (Some tally) in Number (t.high +ℤ t.most)
high_end (Min col) tally = let t = peak_of (Some tally) in least_high col (option_copied t.sure) t
high_end (Max col) tally = let t = peak_of (Some tally) in as_end col (option_copied t.far)

-- ---- all groups

-- what is kept of each group after whole blocks
abbrev pub AreTallied : Goal → List ColumnTest → ℕ → List (List (List Value)) → BTreeMap Value Tally → Type 0
AreTallied goal tests col front groups = (v : Value) → IsTallied goal (meets (tests_with tests col v)) front (get value_cmp groups v)

-- a row more of the group of a value, and of no other
pub record HasRowMore (goal : Goal) (turn : Turn) (row : List Value) (value : Value) (old new : BTreeMap Value Tally) : Type 0 where
  pub tally : Tally
  pub more : IsMore goal turn row (get value_cmp old value) tally
  pub here : get value_cmp new value ≡ Some tally
  pub others : (v : Value) → (v ≡ value → ⊥) → get value_cmp new v ≡ get value_cmp old v

-- a row more of its group, if it meets the tests
abbrev pub HasMet : Goal → List ColumnTest → ℕ → Turn → List Value → BTreeMap Value Tally → BTreeMap Value Tally → Type 0
HasMet goal tests col turn row old new = ((meets tests row ≡ true) × HasRowMore goal turn row (cell row col) old new) ⊎ ((meets tests row ≡ false) × (new ≡ old))

-- both ends of what is kept of a group
pub record HasEnds (goal : Goal) (tally : Tally) (least greatest : End) : Type 0 where
  pub low : least ≡ low_end goal tally
  pub high : greatest ≡ high_end goal tally

-- a group with both ends of what is kept of it
pub record IsEnded (goal : Goal) (value : Value) (tally : Tally) (group : Group) : Type 0 where
  pub value_is : group.value ≡ value
  pub ends : (p : List Value → Bool) (blocks : List (List (List Value))) → length blocks ≤ MOST_ROWS → IsWhole goal p blocks (Some tally) → HasEnds goal tally group.least group.greatest
