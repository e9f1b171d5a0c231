-- Rows that are put aside, and put back.
use Rattle.std.specs.Prelude.{◌≡◌, ◌⊎◌, ℕ, List, [], ◌∷◌, length}
use Rattle.block_choices.specs.declared.row.BlockRow.{BlockRow}
use Rattle.choice_values.specs.Values.{Weighted}
use Rattle.choice_values.specs.Choosing.{picked, IsFree, AreFree}

-- they are the rows of a choice
abbrev pub AreRowsOf : (ℕ → ℕ) → List BlockRow → Type 0
AreRowsOf c [] = Unit {0}
AreRowsOf c (x ∷ aside) = (c x.block ≡ x.row) × AreRowsOf c aside

-- the rows of the blocks of lists are put aside
pub record AreAside (lists : List Weighted) (rows : List ℕ) (aside : List BlockRow) : Type 0 where
  pub told : AreRowsOf (picked rows) aside
  pub fewer : (x : ℕ) → AreFree x lists → IsFree x aside
  pub all : (x : ℕ) → IsFree x aside → AreFree x lists

-- each block has the row that was put aside, or the one that it had
pub record ArePutBack (aside : List BlockRow) (old new : List ℕ) : Type 0 where
  pub size : length new ≡ length old
  pub each : (rows : List ℕ) → length rows ≡ length old → AreRowsOf (picked rows) aside → (x : ℕ) → (picked new x ≡ picked rows x) ⊎ (IsFree x aside × (picked new x ≡ picked old x))

-- the rows of a list's blocks
abbrev pub rows_at : List ℕ → List BlockRow → List BlockRow
rows_at rows [] = []
rows_at rows (x ∷ names) = record { block = x.block; row = picked rows x.block } ∷ rows_at rows names
