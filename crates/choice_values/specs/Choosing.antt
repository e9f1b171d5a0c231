-- Choices as functions from blocks to rows, which can be changed at a block or mixed of two, and what lists add up to in one.
use Rattle.std.specs.Prelude.{◌≡◌, ◌≢◌, ℕ, ◌<◌, Bool, true, ◌&&◌, if◌then◌else◌, nat_eq, List, [], ◌∷◌, length, slice_index, slice_index_or, ℤ, pos, ◌+ℤ◌, ◌≤ℤ◌}
use Rattle.block_choices.specs.declared.row.BlockRow.{BlockRow}
use Rattle.choice_values.specs.Values.{Weighted}

-- how many rows a block has; one that isn't there has one
abbrev pub size_at : List ℕ → ℕ → ℕ
size_at sizes b = slice_index_or sizes b 1

-- a row of each block
abbrev pub PicksWithin : List ℕ → (ℕ → ℕ) → Type 0
PicksWithin sizes c = (b : ℕ) → c b < size_at sizes b

-- the row of a block
abbrev pub picked : List ℕ → ℕ → ℕ
picked rows b = slice_index rows b

-- rows of all blocks
pub record AreRows (sizes rows : List ℕ) : Type 0 where
  pub size : length rows ≡ length sizes
  pub within : PicksWithin sizes (picked rows)

-- all rows of the list are picked
abbrev pub keeps : (ℕ → ℕ) → List BlockRow → Bool
keeps c [] = true
keeps c (x ∷ names) = nat_eq (c x.block) x.row && keeps c names

-- what a list adds
abbrev pub worth : (ℕ → ℕ) → Weighted → ℤ
worth c l = if keeps c l.names then l.weight else pos 0

-- what lists add up to
abbrev pub worths : (ℕ → ℕ) → List Weighted → ℤ
worths c [] = pos 0
worths c (l ∷ lists) = worth c l +ℤ worths c lists

-- all blocks that a list names are such blocks
abbrev pub IsIn : (ℕ → Type 0) → List BlockRow → Type 0
IsIn Such [] = Unit {0}
IsIn Such (x ∷ names) = Such x.block × IsIn Such names

-- all blocks that lists name are
abbrev pub AreIn : (ℕ → Type 0) → List Weighted → Type 0
AreIn Such [] = Unit {0}
AreIn Such (l ∷ lists) = IsIn Such l.names × AreIn Such lists

-- a list doesn't name the block
abbrev pub IsFree : ℕ → List BlockRow → Type 0
IsFree b names = IsIn (λ x. x ≢ b) names

-- no list names the block
abbrev pub AreFree : ℕ → List Weighted → Type 0
AreFree b lists = AreIn (λ x. x ≢ b) lists

-- Rows at which a function of choices has its least value among those that meet a condition, where the rows of the free blocks stay.
pub record IsSolvedAmong (sizes : List ℕ) (Meets : (ℕ → ℕ) → Type 0) (f : (ℕ → ℕ) → ℤ) (Free : ℕ → Type 0) (old new : List ℕ) (n : ℤ) : Type 0 where
  pub rows : AreRows sizes new
  pub stays : (b : ℕ) → Free b → picked new b ≡ picked old b
  pub has : n ≡ f (picked new)
  pub least : (c : ℕ → ℕ) → PicksWithin sizes c → Meets c → n ≤ℤ f c

-- rows of the least value of lists
abbrev pub IsSolved : List ℕ → List Weighted → List ℕ → List ℕ → ℤ → Type 0
IsSolved sizes lists old new n = IsSolvedAmong sizes (λ c. Unit {0}) (λ c. worths c lists) (λ b. AreFree b lists) old new n

-- the same among the choices of a row of a block
abbrev pub IsSolvedWith : List ℕ → List Weighted → ℕ → ℕ → List ℕ → List ℕ → ℤ → Type 0
IsSolvedWith sizes lists b r old new n = IsSolvedAmong sizes (λ c. c b ≡ r) (λ c. worths c lists) (λ x. AreFree x lists) old new n

-- and of one of its first rows
abbrev pub IsSolvedBelow : List ℕ → List Weighted → ℕ → ℕ → List ℕ → List ℕ → ℤ → Type 0
IsSolvedBelow sizes lists b k old new n = IsSolvedAmong sizes (λ c. c b < k) (λ c. worths c lists) (λ x. AreFree x lists) old new n
