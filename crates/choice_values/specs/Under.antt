-- Lists where a block keeps a row.
use Rattle.std.specs.Prelude.{◌≡◌, ℕ, Bool, true, false, List, ℤ, ◌+ℤ◌}
use Rattle.block_choices.specs.declared.row.BlockRow.{BlockRow}
use Rattle.choice_values.specs.Values.{Weighted}
use Rattle.choice_values.specs.Choosing.{keeps, worths, IsFree, AreFree}

-- the rows that are left are kept exactly where the list is, if the block keeps the row
pub record IsLeft (b r : ℕ) (names left : List BlockRow) : Type 0 where
  pub same : (c : ℕ → ℕ) → c b ≡ r → keeps c names ≡ keeps c left
  pub free : IsFree b left
  pub fewer : (x : ℕ) → IsFree x names → IsFree x left

-- the same, or the list names another row of the block
abbrev pub IsCut : ℕ → ℕ → List BlockRow → List BlockRow → Bool → Type 0
IsCut b r names left true = IsLeft b r names left
IsCut b r names left false = (c : ℕ → ℕ) → c b ≡ r → keeps c names ≡ false

-- what counts for good and the lists that are left add up to what the lists do, if the block keeps the row
pub record IsUnder (b r : ℕ) (lists : List Weighted) (base : ℤ) (left : List Weighted) : Type 0 where
  pub same : (c : ℕ → ℕ) → c b ≡ r → worths c lists ≡ base +ℤ worths c left
  pub free : AreFree b left
  pub fewer : (x : ℕ) → AreFree x lists → AreFree x left
