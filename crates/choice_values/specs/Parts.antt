-- Lists in parts that share no block.
use Rattle.std.specs.Prelude.{◌≡◌, ◌<◌, ℕ, suc, List, [], ◌∷◌, ◌++◌, length, slice_index_or, slice_set, ℤ, pos, ◌+ℤ◌}
use Rattle.block_choices.specs.declared.row.BlockRow.{BlockRow}
use Rattle.choice_values.specs.Values.{Weighted}
use Rattle.choice_values.specs.Choosing.{worths, IsIn, AreIn, AreFree, IsSolvedAmong}

-- the number of a block's part
abbrev pub number_at : List ℕ → ℕ → ℕ
number_at numbers b = slice_index_or numbers b 0

-- all blocks of a list have the number
abbrev pub IsOf : (ℕ → ℕ) → ℕ → List BlockRow → Type 0
IsOf number n names = IsIn (λ x. number x ≡ n) names

-- all blocks of lists have it
abbrev pub AreOf : (ℕ → ℕ) → ℕ → List Weighted → Type 0
AreOf number n lists = AreIn (λ x. number x ≡ n) lists

-- the blocks of each part have its number
abbrev pub AreApart : (ℕ → ℕ) → ℕ → List (List Weighted) → Type 0
AreApart number n [] = Unit {0}
AreApart number n (p ∷ parts) = AreOf number n p × AreApart number (suc n) parts

-- what all parts add up to
abbrev pub total : (ℕ → ℕ) → List (List Weighted) → ℤ
total c [] = pos 0
total c (p ∷ parts) = worths c p +ℤ total c parts

-- no part has a row of the block
abbrev pub AreAllFree : ℕ → List (List Weighted) → Type 0
AreAllFree b [] = Unit {0}
AreAllFree b (p ∷ parts) = AreFree b p × AreAllFree b parts

-- parts that share no block
abbrev pub ShareNoBlock : List (List Weighted) → Type 0
ShareNoBlock parts = (number : ℕ → ℕ) × AreApart number 0 parts

-- parts that share no block and are what the lists are
pub record AreParts (lists : List Weighted) (parts : List (List Weighted)) : Type 0 where
  pub apart : ShareNoBlock parts
  pub same : (c : ℕ → ℕ) → worths c lists ≡ total c parts
  pub fewer : (x : ℕ) → AreFree x lists → AreAllFree x parts

-- rows of the least value of all parts
abbrev pub AreSolved : List ℕ → List (List Weighted) → List ℕ → List ℕ → ℤ → Type 0
AreSolved sizes parts old new n = IsSolvedAmong sizes (λ c. Unit {0}) (λ c. total c parts) (λ b. AreAllFree b parts) old new n

-- parts without a list
abbrev pub AreNoLists : List (List Weighted) → Type 0
AreNoLists [] = Unit {0}
AreNoLists (p ∷ parts) = (p ≡ []) × AreNoLists parts

-- a list is added to the part of its blocks
pub record IsSortedIn (number : ℕ → ℕ) (l : Weighted) (old new : List (List Weighted)) : Type 0 where
  pub at : ℕ
  pub there : at < length old
  pub blocks : IsOf number at l.names
  pub added : new ≡ slice_set old at (slice_index_or old at [] ++ l ∷ [])
