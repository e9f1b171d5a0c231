-- Blocks as stretches of rows in block order.
use Rattle.std.specs.Prelude.{ℕ, ◌<◌, ◌≤◌, ◌↔◌, List, [], length, slice_index_or}
use Rattle.cqa_value.specs.declared.value.Value.{Value}
use Rattle.cqa_model.specs.Repairs.{SharesKey}

-- the rows before a place are of other blocks than the row there
abbrev pub BeginsBlock : List ℕ → List (List Value) → ℕ → Type 0
BeginsBlock key rows at = (i : ℕ) → i < at → at < length rows → SharesKey key (slice_index_or rows i []) (slice_index_or rows at []) → ⊥

-- the rows from one place to another are a block
pub record IsBlockBetween (key : List ℕ) (rows : List (List Value)) (start end : ℕ) : Type 0 where
  pub some : start < end
  pub within : end ≤ length rows
  pub exactly : (i : ℕ) → i < length rows → SharesKey key (slice_index_or rows start []) (slice_index_or rows i []) ↔ ((start ≤ i) × (i < end))
