-- Weights and lists, one by one.
use Rattle.std.specs.Prelude.{ℕ, List, [], ◌∷◌, slice_index_or, ℤ, pos}
use Rattle.block_choices.specs.declared.row.BlockRow.{BlockRow}
use Rattle.choice_values.specs.Values.{Weighted}

-- the lists with their weights
abbrev pub weighted : List ℤ → List (List BlockRow) → List Weighted
weighted [] names = []
weighted (w ∷ weights) [] = []
weighted (w ∷ weights) (l ∷ names) = record { weight = w; names = l } ∷ weighted weights names

-- no row, and no weight
abbrev pub nothing : Weighted
nothing = record { weight = pos 0; names = [] }

-- the list at a place
abbrev pub list_at : List Weighted → ℕ → Weighted
list_at lists at = slice_index_or lists at nothing
