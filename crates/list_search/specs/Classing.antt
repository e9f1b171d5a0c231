-- Classes of rows that are alike, as code numbers them: a class is the number of one of its variables.
use Rattle.cqa_model.specs.declared.limits.TheConstants.{MOST_TABLES, MOST_ROWS}
use Rattle.std.specs.Prelude.{◌*◌, ◌≡◌, ℕ, suc, ◌∷◌, ◌<◌, ◌≤◌, ◌++◌, ◌↔◌, ◌⊎◌, Bool, List, [], Option, Some, length, map, Contains, slice_get, slice_index_or}
use Rattle.std.specs.Ordering.{nat_cmp}
use Rattle.std.specs.List.Sorted.{IsStrictlySortedBy}
use Rattle.cqa_value.specs.declared.value.Value.{Value}
use Rattle.cqa_model.specs.Repairs.{SharesKey}
use Rattle.cnf_form.specs.declared.formula.Lit.{Lit}
use Rattle.row_lists.specs.declared.span.Span.{Span}
use Rattle.row_lists.specs.Clauses.{Variable, HasNumber, positive, negative}
use Rattle.row_lists.specs.Spans.{at, HasSpan, IsInSpan, AreSpansApart}

-- the row at a place of a slot has this class
abbrev pub HasClass : List Variable → List (Option ℕ) → ℕ → ℕ → ℕ → Type 0
HasClass variables classes s p n = (k : ℕ) × (slice_get variables k ≡ Some (at s p)) × (slice_get classes k ≡ Some (Some n))

-- exactly the rows with a property have a class, and it is the number of a row of the same slot that is alike
pub record AreClassed (variables : List Variable) (P : ℕ → ℕ → Type 0) (AreAlike : ℕ → ℕ → ℕ → Type 0) (classes : List (Option ℕ)) : Type 0 where
  pub size : length classes ≡ length variables
  pub alike : (s p n : ℕ) → HasClass variables classes s p n → (r : ℕ) × HasNumber variables n (at s r) × AreAlike s r p
  pub from : (s p n : ℕ) → HasClass variables classes s p n → P s p
  pub to : (s p : ℕ) → P s p → (n : ℕ) × HasClass variables classes s p n

-- further rows of a slot have got a class, that of a row of the slot which agrees with it in some columns
pub record Marks (variables : List Variable) (columns : List ℕ) (rows : List (List Value)) (slot : ℕ) (places : List ℕ) (old new : List (Option ℕ)) : Type 0 where
  pub size : length new ≡ length old
  pub each : (s p n : ℕ) → HasClass variables new s p n → HasClass variables old s p n ⊎ ((s ≡ slot) × Contains places p ×
      ((r : ℕ) × HasNumber variables n (at slot r) × SharesKey columns (slice_index_or rows r []) (slice_index_or rows p [])))
  pub kept : (s p n : ℕ) → HasClass variables old s p n → (m : ℕ) × HasClass variables new s p m
  pub added : (p : ℕ) → Contains places p → (m : ℕ) × HasClass variables new slot p m

-- few spans of one row each, apart from each other and numbered one after the other
pub record AreSingle (spans : List Span) : Type 0 where
  pub few : length spans ≤ MOST_TABLES * MOST_ROWS
  pub each : (k : ℕ) (s : Span) → slice_get spans k ≡ Some s → (s.count ≡ 1) × (s.base ≡ k)
  pub apart : AreSpansApart spans

-- exactly the rows with a property have a number, each by a span of its own
pub record AreNumberedBySpans (P : ℕ → ℕ → Type 0) (spans : List Span) : Type 0 where
  pub single : AreSingle spans
  pub from : (s : Span) → Contains spans s → P s.slot s.start
  pub to : (s p : ℕ) → P s p → HasSpan spans s p

-- the spans of the rows of a slot at these places, numbered from n on
abbrev pub rows_from : ℕ → ℕ → List ℕ → List Span
rows_from s n [] = []
rows_from s n (p ∷ ps) = record { slot = s; start = p; count = 1; base = n } ∷ rows_from s (suc n) ps

-- the rows of a slot from a to b have these classes
pub record AreRange (variables : List Variable) (classes : List (Option ℕ)) (s a b : ℕ) (numbers : List ℕ) : Type 0 where
  pub each : (n : ℕ) → Contains numbers n → (p : ℕ) × (a ≤ p) × (p < b) × HasClass variables classes s p n
  pub every : (p : ℕ) → a ≤ p → p < b → (n : ℕ) × Contains numbers n × HasClass variables classes s p n

-- a literal
abbrev pub literal_of : Bool → ℕ → Lit
literal_of b n = record { var = n; positive = b }

-- all rows of a block have a class
abbrev pub HasAllClasses : List Variable → List (Option ℕ) → Span → Type 0
HasAllClasses variables classes s = (p : ℕ) → IsInSpan s (at s.slot p) → (n : ℕ) × HasClass variables classes s.slot p n

-- the classes of the rows of a block, all of which have one
pub record AreClassesOfBlock (variables : List Variable) (classes : List (Option ℕ)) (s : Span) (numbers : List ℕ) : Type 0 where
  pub rises : IsStrictlySortedBy nat_cmp numbers
  pub whole : HasAllClasses variables classes s
  pub exactly : (n : ℕ) → Contains numbers n ↔ ((p : ℕ) × IsInSpan s (at s.slot p) × HasClass variables classes s.slot p n)

-- the classes of exactly the blocks of which all rows have one
pub record AreBlockLists (variables : List Variable) (classes : List (Option ℕ)) (spans : List Span) (lists : List (List ℕ)) : Type 0 where
  pub each : (numbers : List ℕ) → Contains lists numbers → (s : Span) × Contains spans s × AreClassesOfBlock variables classes s numbers
  pub every : (s : Span) → Contains spans s → HasAllClasses variables classes s → (numbers : List ℕ) × Contains lists numbers × AreClassesOfBlock variables classes s numbers

-- a list of numbers for each item, and no others
pub record AreListsOf {A : Type 0} (Of : A → List ℕ → Type 0) (items : List A) (lists : List (List ℕ)) : Type 0 where
  pub each : (numbers : List ℕ) → Contains lists numbers → (x : A) × Contains items x × Of x numbers
  pub every : (x : A) → Contains items x → (numbers : List ℕ) × Contains lists numbers × Of x numbers

-- the formula over classes: one of the classes of each block all of whose rows have one, and not all classes of each list
pub record AreClassClauses {A : Type 0} (variables : List Variable) (classes : List (Option ℕ)) (spans : List Span) (Of : A → List ℕ → Type 0) (all : List A) (cs : List (List Lit)) : Type 0 where
  pub blocks : List (List ℕ)
  pub lists : List (List ℕ)
  pub of_blocks : AreBlockLists variables classes spans blocks
  pub of_lists : AreListsOf Of all lists
  pub is : cs ≡ map (map positive) blocks ++ map (map negative) lists
