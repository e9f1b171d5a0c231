-- Blocks that are told by their sizes, lists of their rows, and choices of a row of each block.
use Rattle.std.specs.Prelude.{◌≡◌, ℕ, ◌<◌, List, [], ◌∷◌, Contains, Some, slice_get, slice_index}
use Rattle.block_choices.specs.declared.row.BlockRow.{BlockRow}

-- there is such a row: its block, and in it a row at its place
abbrev pub IsThere : List ℕ → BlockRow → Type 0
IsThere sizes x = x.row < slice_index sizes x.block

-- there are all rows of the lists
abbrev pub AreThere : List ℕ → List (List BlockRow) → Type 0
AreThere sizes lists = (names : List BlockRow) → Contains lists names → (x : BlockRow) → Contains names x → IsThere sizes x

-- a row of each block
abbrev pub IsChoice : List ℕ → List ℕ → Type 0
IsChoice [] [] = Unit {0}
IsChoice [] (r ∷ c) = ⊥
IsChoice (s ∷ sizes) [] = ⊥
IsChoice (s ∷ sizes) (r ∷ c) = (r < s) × IsChoice sizes c

-- the row is the chosen one of its block
abbrev pub Chooses : List ℕ → BlockRow → Type 0
Chooses c x = slice_get c x.block ≡ Some x.row

-- all rows of the list are chosen
abbrev pub HoldsWhole : List ℕ → List BlockRow → Type 0
HoldsWhole c names = (x : BlockRow) → Contains names x → Chooses c x

-- some list is held whole
abbrev pub HoldsSome : List ℕ → List (List BlockRow) → Type 0
HoldsSome c lists = (names : List BlockRow) × Contains lists names × HoldsWhole c names

-- each choice holds some list whole
abbrev pub IsForcedBy : List ℕ → List (List BlockRow) → Type 0
IsForcedBy sizes lists = (c : List ℕ) → IsChoice sizes c → HoldsSome c lists

-- a choice that holds no list whole
pub record IsAvoidedBy (sizes : List ℕ) (lists : List (List BlockRow)) (c : List ℕ) : Type 0 where
  pub choice : IsChoice sizes c
  pub avoids : HoldsSome c lists → ⊥
