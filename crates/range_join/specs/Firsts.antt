-- Of each block of a table a row that no other row of the block goes before.
use Rattle.std.specs.Prelude.{◌≡◌, ℕ, Bool, true, false, ◌+◌, ◌<◌, ◌≤◌, List, [], ◌∷◌, length}
use Rattle.std.specs.List.{AllZip}
use Rattle.cqa_value.specs.declared.value.Value.{Value}
use Rattle.cqa_model.specs.Database.{Table}
use Rattle.row_blocks.specs.Blocks.{blocks_of}
use Rattle.table_blocks.specs.Tables.{rows_at, key_at}
use Rattle.range_ask.specs.Picks.{IsInBlocks}
use Rattle.range_join.specs.declared.spans.Span.{Span}

-- a place of a block
abbrev pub StandsIn : Span → ℕ → Type 0
StandsIn span p = (span.from ≤ p) × (p < span.behind)

-- the places of blocks that stand one behind the other, from a place on
abbrev pub spans_from : ℕ → List (List (List Value)) → List Span
spans_from n [] = []
spans_from n (block ∷ blocks) = record { from = n; behind = n + length block } ∷ spans_from (n + length block) blocks

-- the blocks of a table
abbrev pub blocks_at : List Table → ℕ → List (List (List Value))
blocks_at db table = blocks_of (key_at db table) (rows_at db table)

-- and the places of their rows
abbrev pub spans_at : List Table → ℕ → List Span
spans_at db table = spans_from 0 (blocks_at db table)

-- one place of each block
abbrev pub AreSpots : List Table → ℕ → List ℕ → Type 0
AreSpots db table places = AllZip StandsIn (spans_at db table) places

-- an order in which nothing goes before itself
pub record IsStrictOrder (before : ℕ → ℕ → Bool) : Type 0 where
  pub not_itself : (i : ℕ) → before i i ≡ false
  pub through : (i j k : ℕ) → before i j ≡ true → before j k ≡ true → before i k ≡ true

-- calls at places below a bound answer what an order says
abbrev pub ComputesBelow : (ℕ → ℕ → Bool → Type 0) → ℕ → (ℕ → ℕ → Bool) → Type 0
ComputesBelow post n before = (i j : ℕ) (goes : Bool) → i < n → j < n → post i j goes → goes ≡ before i j

-- a place of a block; no other place of it goes before this one
pub record IsFirst (before : ℕ → ℕ → Bool) (span : Span) (p : ℕ) : Type 0 where
  pub there : StandsIn span p
  pub first : (q : ℕ) → StandsIn span q → before q p ≡ false

-- such a place of each block of a table, in block order
pub record AreFirsts (before : ℕ → ℕ → Bool) (db : List Table) (table : ℕ) (places : List ℕ) : Type 0 where
  pub parted : IsInBlocks db table (blocks_at db table)
  pub firsts : AllZip (IsFirst before) (spans_at db table) places
