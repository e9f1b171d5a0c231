-- Blocks of rows as runs of places, and the numbers of their rows.
use Rattle.std.specs.Prelude.{◌⊎◌, Some, slice_get, ◌≡◌, ℕ, suc, ◌+◌, ◌*◌, ◌<◌, ◌≤◌, ◌↔◌, ◌∷◌, List, [], length, map, flat_map, Contains, slice_index_or}
use Rattle.std.specs.Coded.{Coded-set, coded_ℕ, ×_prop}
use Rattle.std.specs.Ordering.{ordering_then, nat_cmp}
use Rattle.std.specs.declared.cmp.Ordering.{Ordering}
use Rattle.std.specs.List.{range_with_len}
use Rattle.cqa_value.specs.declared.value.Value.{Value}
use Rattle.cqa_model.specs.declared.limits.TheConstants.{MOST_TABLES, MOST_ROWS}
use Rattle.cqa_model.specs.Repairs.{SharesKey}
use Rattle.row_lists.specs.declared.span.Span.{Span}
use Rattle.row_lists.specs.Clauses.{Variable, Formula}

abbrev pub at : ℕ → ℕ → Variable
at slot p = record { slot = slot; place = p }

-- the row is in the block
abbrev pub IsInSpan : Span → Variable → Type 0
IsInSpan s x = (x.slot ≡ s.slot) × (s.start ≤ x.place) × (x.place < s.start + s.count)

-- the place is in the span
abbrev pub Covers : Span → ℕ → Type 0
Covers s p = (s.start ≤ p) × (p < s.start + s.count)

-- the rows at the places of a span are a whole block
pub record IsWholeBlock (key : List ℕ) (rows : List (List Value)) (s : Span) : Type 0 where
  pub some : 0 < s.count
  pub within : s.start + s.count ≤ length rows
  pub block : (i : ℕ) → i < length rows → SharesKey key (slice_index_or rows s.start []) (slice_index_or rows i []) ↔ Covers s i

-- by slots, and those of one slot by their first rows
abbrev pub span_cmp : Span → Span → Ordering
span_cmp s t = ordering_then (nat_cmp s.slot t.slot) (nat_cmp s.start t.start)

-- so many variables come before each
abbrev pub AreBased : ℕ → List Span → Type 0
AreBased n [] = Unit {0}
AreBased n (s ∷ ss) = (s.base ≡ n) × AreBased (n + s.count) ss

-- so many variables come before each, and so many are there in all
abbrev pub AreBasedTo : ℕ → List Span → ℕ → Type 0
AreBasedTo n [] m = n ≡ m
AreBasedTo n (s ∷ ss) m = (s.base ≡ n) × AreBasedTo (n + s.count) ss m

-- there is at most one proof of it, so it may stand on a type
pub AreBasedTo-prop : (n : ℕ) (spans : List Span) (m : ℕ) → IsProp (AreBasedTo n spans m)
AreBasedTo-prop n [] m = Coded-set coded_ℕ n m
AreBasedTo-prop n (s ∷ ss) m = ×_prop (Coded-set coded_ℕ s.base n) (AreBasedTo-prop (n + s.count) ss m)

-- a span of an earlier slot, or one that ends before the other begins
abbrev pub IsEarlierSpan : Span → Span → Type 0
IsEarlierSpan s t = (s.slot ≤ t.slot) × (s.slot ≡ t.slot → s.start + s.count ≤ t.start)

-- each span is before those behind it
abbrev pub AreSpansApart : List Span → Type 0
AreSpansApart spans = (i j : ℕ) (s t : Span) → i < j → slice_get spans i ≡ Some s → slice_get spans j ≡ Some t → IsEarlierSpan s t

-- spans that are apart from each other, of rows of a database's tables; so many rows, numbered one after the other from 1
pub record IsSpanNumbering (spans : List Span) (vars : ℕ) : Type 0 where
  pub apart : AreSpansApart spans
  pub based : AreBasedTo 0 spans vars
  pub few : vars ≤ MOST_TABLES * MOST_ROWS
  pub within : (s : Span) → Contains spans s → s.start + s.count ≤ MOST_ROWS

abbrev pub variables_in : Span → List Variable
variables_in s = map (at s.slot) (range_with_len s.start s.count)

abbrev pub variables_of_spans : List Span → List Variable
variables_of_spans spans = flat_map variables_in spans

abbrev pub numbers_in : Span → List ℕ
numbers_in s = range_with_len (suc s.base) s.count

-- the formula of spans, and of the numbers of the rows of lists
abbrev pub formula_of_spans : List Span → List (List ℕ) → Formula
formula_of_spans spans lists = record { variables = variables_of_spans spans; blocks = map numbers_in spans; witnesses = lists }

-- one of the spans has the place of a slot
abbrev pub HasSpan : List Span → ℕ → ℕ → Type 0
HasSpan spans slot p = (s : Span) × Contains spans s × IsInSpan s (at slot p)

-- the span at an index of the list has the place of a slot
abbrev pub IsAt : List Span → ℕ → ℕ → ℕ → Type 0
IsAt spans slot p k = (s : Span) × (slice_get spans k ≡ Some s) × IsInSpan s (at slot p)

-- at no other place of the list is a span with the place of a slot
abbrev pub IsOnlyAt : List Span → ℕ → ℕ → ℕ → Type 0
IsOnlyAt spans slot p found = (k : ℕ) (s : Span) → slice_get spans k ≡ Some s → IsInSpan s (at slot p) → k ≡ found

-- the span begins at the place of a slot, or before it
abbrev pub BeginsAtOrBefore : Span → ℕ → ℕ → Type 0
BeginsAtOrBefore s slot p = (s.slot < slot) ⊎ ((s.slot ≡ slot) × (s.start ≤ p))
