-- Numbers of rows by how many rows stand in the blocks before each.
use Rattle.std.specs.Prelude.{◌≡◌, ℕ, ◌+◌, ◌<◌, ◌↔◌, ◌++◌, List, [], ◌∷◌, length, map, Contains, slice_index}
use Rattle.std.specs.Ordering.{nat_cmp}
use Rattle.std.specs.List.{AllZip}
use Rattle.std.specs.List.Sorted.{IsStrictlySortedBy}
use Rattle.cnf_form.specs.declared.formula.Lit.{Lit}
use Rattle.cnf_form.specs.Literals.{negative}
use Rattle.block_choices.specs.declared.row.BlockRow.{BlockRow}
use Rattle.block_lists.specs.declared.limits.TheConstants.{MOST_GROUP_ROWS}

-- how many rows stand before each block, where n stand before the first
abbrev pub bases_from : ℕ → List ℕ → List ℕ
bases_from n [] = []
bases_from n (s ∷ sizes) = n ∷ bases_from (n + s) sizes

-- the number of a row, from 1 on
abbrev pub number_over : List ℕ → BlockRow → ℕ
number_over bases x = slice_index bases x.block + 1 + x.row

-- the row is of one of the blocks, and its number is within the limit
abbrev pub IsBasedOver : List ℕ → BlockRow → Type 0
IsBasedOver bases x = (x.block < length bases) × (slice_index bases x.block + x.row < MOST_GROUP_ROWS)

-- each row of a list is
abbrev pub AreBasedOver : List ℕ → List BlockRow → Type 0
AreBasedOver bases names = (x : BlockRow) → Contains names x → IsBasedOver bases x

-- and of each of the lists
abbrev pub AreAllBasedOver : List ℕ → List (List BlockRow) → Type 0
AreAllBasedOver bases lists = (names : List BlockRow) → Contains lists names → AreBasedOver bases names

-- the numbers of the rows of a list, rising and each once
pub record AreNumbersOver (bases : List ℕ) (names : List BlockRow) (numbers : List ℕ) : Type 0 where
  pub rises : IsStrictlySortedBy nat_cmp numbers
  pub same : (m : ℕ) → Contains numbers m ↔ Contains (map (number_over bases) names) m

-- the clause of a list: the numbers of its rows, as negative literals
abbrev pub IsListClause : List ℕ → List BlockRow → List Lit → Type 0
IsListClause bases names lits = (numbers : List ℕ) × AreNumbersOver bases names numbers × (lits ≡ map negative numbers)

-- the clauses of lists are added, one for each list
pub record AddsLists (bases : List ℕ) (lists : List (List BlockRow)) (old new : List (List Lit)) : Type 0 where
  pub numbers : List (List ℕ)
  pub numbered : AllZip (AreNumbersOver bases) lists numbers
  pub is : new ≡ old ++ map (map negative) numbers
