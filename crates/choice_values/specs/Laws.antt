-- The laws of values, over the definitions alone.
use Rattle.std.specs.Prelude.{◌↔◌, ℕ, IsTrue, List}
use Rattle.block_choices.specs.declared.row.BlockRow.{BlockRow}
use Rattle.block_choices.specs.Choices.{HoldsWhole}
use Rattle.choice_values.specs.Values.{holds}

-- What is summed up over is whether a choice holds a list whole.
abbrev pub HoldsIsHoldsWhole : Type 0
HoldsIsHoldsWhole = (c : List ℕ) (names : List BlockRow) → IsTrue (holds c names) ↔ HoldsWhole c names
