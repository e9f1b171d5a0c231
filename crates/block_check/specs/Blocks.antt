-- Rows that are all different.
use Rattle.std.specs.Prelude.{◌≡◌, ℕ, ◌<◌, List, [], length, slice_index_or}
use Rattle.cqa_value.specs.declared.value.Value.{Value}

-- no row stands at two places
abbrev pub AllDiffer : List (List Value) → Type 0
AllDiffer rows = (i j : ℕ) → i < j → j < length rows → slice_index_or rows i [] ≡ slice_index_or rows j [] → ⊥
