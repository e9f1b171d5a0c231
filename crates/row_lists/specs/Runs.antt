-- The blocks of one table that have a row at one of some places.
use Rattle.std.specs.Prelude.{◌≡◌, ℕ, ◌+◌, ◌<◌, ◌≤◌, List, length, Contains, slice_index}
use Rattle.std.specs.List.Sorted.{IsStrictlySortedBy}
use Rattle.cqa_value.specs.declared.value.Value.{Value}
use Rattle.row_lists.specs.declared.span.Span.{Span}
use Rattle.row_lists.specs.Spans.{span_cmp, AreBasedTo, Covers, IsWholeBlock}

-- places of rows, in order, each once
pub record AreRowPlaces (rows : List (List Value)) (places : List ℕ) : Type 0 where
  pub in_order : (i j : ℕ) → i < j → j < length places → slice_index places i < slice_index places j
  pub there : (i : ℕ) → i < length places → slice_index places i < length rows

-- a whole block of the slot's rows that has one of the places
pub record IsRun (key : List ℕ) (rows : List (List Value)) (slot : ℕ) (places : List ℕ) (s : Span) : Type 0 where
  pub of_slot : s.slot ≡ slot
  pub whole : IsWholeBlock key rows s
  pub met : (i : ℕ) × (i < length places) × Covers s (slice_index places i)

-- exactly the blocks that have one of the places, numbered from a base on, and how many variables come up to their end
pub record AreRuns (key : List ℕ) (rows : List (List Value)) (slot base : ℕ) (places : List ℕ) (vars : ℕ) (spans : List Span) : Type 0 where
  pub in_order : IsStrictlySortedBy span_cmp spans
  pub based : AreBasedTo base spans vars
  pub small : vars ≤ base + length rows
  pub each : (s : Span) → Contains spans s → IsRun key rows slot places s
  pub every : (i : ℕ) → i < length places → (s : Span) × Contains spans s × Covers s (slice_index places i)
