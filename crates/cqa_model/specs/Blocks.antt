-- The blocks of a table.
use Rattle.std.specs.Prelude.{◌≡◌, ℕ, ◌<◌, List, [], length, flat_map, Contains, slice_index_or}
use Rattle.cqa_value.specs.declared.value.Value.{Value}
use Rattle.cqa_model.specs.Repairs.{SharesKey}

-- one behind the other they are all rows; the rows of each block share a key, and rows of two blocks don't
pub record AreBlocks (key : List ℕ) (rows : List (List Value)) (blocks : List (List (List Value))) : Type 0 where
  pub joined : flat_map (λ block. block) blocks ≡ rows
  pub some : (block : List (List Value)) → Contains blocks block → 0 < length block
  pub alike : (block : List (List Value)) → Contains blocks block → (x y : List Value) → Contains block x → Contains block y → SharesKey key x y
  pub apart : (i j : ℕ) → i < j → j < length blocks → (x y : List Value) → Contains (slice_index_or blocks i []) x → Contains (slice_index_or blocks j []) y → SharesKey key x y → ⊥

-- rows have so many blocks
abbrev pub HasBlocks : List ℕ → List (List Value) → ℕ → Type 0
HasBlocks key rows count = (blocks : List (List (List Value))) × AreBlocks key rows blocks × (length blocks ≡ count)

-- the row at a place is the first row of its block that has the property; or no row has it, and it is the first
pub record IsPick (key : List ℕ) (rows : List (List Value)) (P : ℕ → Type 0) (at : ℕ) : Type 0 where
  pub there : at < length rows
  pub best : (i : ℕ) → i < length rows → SharesKey key (slice_index_or rows at []) (slice_index_or rows i []) → P i → P at
  pub first : (i : ℕ) → i < at → SharesKey key (slice_index_or rows at []) (slice_index_or rows i []) → P at × (P i → ⊥)
