-- The clauses of a formula of rows (Dixit and Kolaitis, SAT 2019). A row of a block that matters is a variable, and the variables
-- are numbered from 1.
use Rattle.std.specs.Prelude.{◌≡◌, ℕ, zero, suc, ◌+◌, ◌<◌, ◌≤◌, ◌↔◌, Bool, List, ◌++◌, map, Contains, Some, slice_get}
use Rattle.std.specs.Ordering.{ordering_then, nat_cmp}
use Rattle.std.specs.declared.cmp.Ordering.{Ordering}
use Rattle.std.specs.List.Sorted.{IsStrictlySortedBy}
use Rattle.std.specs.Cmp.Lexicographic.{slice_cmp}
use Rattle.cnf_form.specs.declared.formula.Lit.{Lit}
pub use Rattle.cnf_form.specs.Literals.{positive, negative, SatisfiesAll}

-- a variable: a stored row of a table, by the table's place among those whose rows are numbered (its slot), and its own place in
-- block order
pub record Variable : Type 0 where
  pub slot : ℕ
  pub place : ℕ

-- by slots, and those of one slot in block order
abbrev pub variable_cmp : Variable → Variable → Ordering
variable_cmp x y = ordering_then (nat_cmp x.slot y.slot) (nat_cmp x.place y.place)

-- the number of a variable, from 1
abbrev pub HasNumber : List Variable → ℕ → Variable → Type 0
HasNumber variables zero x = ⊥
HasNumber variables (suc k) x = slice_get variables k ≡ Some x

-- exactly the lists of numbers with a property, in lexicographic order
pub record AreAllLists (P : List ℕ → Type 0) (lists : List (List ℕ)) : Type 0 where
  pub in_order : IsStrictlySortedBy (slice_cmp nat_cmp) lists
  pub exactly : (numbers : List ℕ) → Contains lists numbers ↔ P numbers

-- variables, and the lists of numbers that the clauses are made of
pub record Formula : Type 0 where
  pub variables : List Variable
  pub blocks : List (List ℕ)
  pub witnesses : List (List ℕ)

-- one of each block's rows, and not all of each witness's rows
abbrev pub clauses : Formula → List (List Lit)
clauses f = map (map positive) f.blocks ++ map (map negative) f.witnesses

-- some assignment satisfies the clauses
abbrev pub IsSatisfiable : Formula → Type 0
IsSatisfiable f = (v : ℕ → Bool) × SatisfiesAll v (clauses f)

-- the variables of a clause rise, and are among 1 to a number
pub record Rises (variables : ℕ) (c : List Lit) : Type 0 where
  pub rises : IsStrictlySortedBy nat_cmp (map (λ (l : Lit). l.var) c)
  pub in_range : (l : Lit) → Contains c l → (1 ≤ l.var) × (l.var < 1 + variables)
