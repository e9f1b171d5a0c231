-- The formula of a group: each row of each block is a variable, numbered from 1, block after block (Dixit and Kolaitis, SAT 2019).
use Rattle.std.specs.Prelude.{◌≡◌, ℕ, zero, suc, ◌+◌, ◌↔◌, ◌++◌, List, [], ◌∷◌, map, Contains}
use Rattle.std.specs.Ordering.{nat_cmp}
use Rattle.std.specs.List.{AllZip, range_with_len, sum}
use Rattle.std.specs.List.Sorted.{IsStrictlySortedBy}
use Rattle.cnf_form.specs.declared.formula.Lit.{Lit}
use Rattle.cnf_form.specs.declared.formula.Cnf.{Cnf}
use Rattle.cnf_form.specs.Literals.{literals, negative, positive}
use Rattle.block_choices.specs.declared.row.BlockRow.{BlockRow}

-- the number of a row of a block, where so many variables come before the blocks
abbrev pub number : ℕ → List ℕ → ℕ → ℕ → ℕ
number n [] b r = 0
number n (s ∷ sizes) zero r = suc (n + r)
number n (s ∷ sizes) (suc b) r = number (n + s) sizes b r

-- the numbers of the rows of each block
abbrev pub blocks_from : ℕ → List ℕ → List (List ℕ)
blocks_from n [] = []
blocks_from n (s ∷ sizes) = range_with_len (suc n) s ∷ blocks_from (n + s) sizes

-- the numbers of the rows of a list, rising and each once
pub record AreNumbersIn (sizes : List ℕ) (names : List BlockRow) (numbers : List ℕ) : Type 0 where
  pub rises : IsStrictlySortedBy nat_cmp numbers
  pub exactly : (m : ℕ) → Contains numbers m ↔ ((x : BlockRow) × Contains names x × (number 0 sizes x.block x.row ≡ m))

-- one of each block's rows, and not all of each list's rows
abbrev pub group_clauses : List ℕ → List (List ℕ) → List (List Lit)
group_clauses sizes lists = map (map positive) (blocks_from 0 sizes) ++ map (map negative) lists

-- a clause for each block, and then one for each list, in their order
pub record IsGroupFormula (sizes : List ℕ) (lists : List (List BlockRow)) (cnf : Cnf) : Type 0 where
  pub vars : cnf.vars ≡ sum sizes
  pub numbers : List (List ℕ)
  pub numbered : AllZip (AreNumbersIn sizes) lists numbers
  pub clauses : literals cnf.clauses ≡ group_clauses sizes numbers
