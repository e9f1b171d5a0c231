-- Keys of tables, and the rows that share them.
use Rattle.std.specs.Prelude.{ℕ, ◌<◌, ◌≤◌, Bool, if◌then◌else◌, List, [], ◌∷◌, length, All, Option, Some, None}
use Rattle.cqa_value.specs.declared.value.Value.{Value}
use Rattle.cqa_value.specs.Values.{row_eq}
use Rattle.cqa_model.specs.Database.{key_of}
use Rattle.cqa_model.specs.Shape.{AreDistinct}
use Rattle.table_blocks.specs.declared.clash.Clash.{Clash}

-- one or more different places of so many columns
pub record IsKey (width : ℕ) (key : List ℕ) : Type 0 where
  pub some_key : 1 ≤ length key
  pub key_in_range : All (λ p. p < width) key
  pub key_apart : AreDistinct key

-- two rows have the same key values
abbrev pub same_key : List ℕ → List Value → List Value → Bool
same_key key x y = row_eq (key_of key x) (key_of key y)

-- of rows in block order, the first two of the first block of more than one row
abbrev pub first_clash : List ℕ → List (List Value) → Option Clash
first_clash key [] = None
first_clash key (first ∷ []) = None
first_clash key (first ∷ second ∷ rows) = if same_key key first second then Some (record { first = first; second = second }) else first_clash key (second ∷ rows)
