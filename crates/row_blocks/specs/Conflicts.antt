-- How much of a table breaks its key.
use Rattle.std.specs.Prelude.{◌≡◌, ℕ, Bool, true, false, List, ◌∷◌}
use Rattle.std.specs.List.{count_by}
use Rattle.cqa_value.specs.declared.value.Value.{Value}
use Rattle.cqa_model.specs.Blocks.{AreBlocks}

-- a block of two rows or more: it breaks the key, and a repair has to choose one of its rows
abbrev pub is_conflict : List (List Value) → Bool
is_conflict (x ∷ y ∷ block) = true
is_conflict block = false

-- rows have so many blocks of two rows or more
abbrev pub HasConflicts : List ℕ → List (List Value) → ℕ → Type 0
HasConflicts key rows count = (blocks : List (List (List Value))) × AreBlocks key rows blocks × (count_by is_conflict blocks ≡ count)
