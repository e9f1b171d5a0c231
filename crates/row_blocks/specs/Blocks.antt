-- The blocks of rows in block order.
use Rattle.std.specs.Prelude.{ℕ, List, [], ◌∷◌, if◌then◌else◌}
use Rattle.cqa_value.specs.declared.value.Value.{Value}
use Rattle.cqa_value.specs.Values.{row_eq}
use Rattle.cqa_model.specs.Database.{key_of}

-- blocks with a row more in front, which is of the first block if it shares the key of the row there
abbrev pub blocks_with_row : List ℕ → List Value → List (List (List Value)) → List (List (List Value))
blocks_with_row key row [] = (row ∷ []) ∷ []
blocks_with_row key row ([] ∷ blocks) = (row ∷ []) ∷ blocks
blocks_with_row key row ((next ∷ block) ∷ blocks) = if row_eq (key_of key row) (key_of key next) then (row ∷ next ∷ block) ∷ blocks else (row ∷ []) ∷ (next ∷ block) ∷ blocks

-- the blocks of rows in block order: neighbours that share a key are of one block
abbrev pub blocks_of : List ℕ → List (List Value) → List (List (List Value))
blocks_of key [] = []
blocks_of key (row ∷ rows) = blocks_with_row key row (blocks_of key rows)
