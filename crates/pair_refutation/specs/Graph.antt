-- The formula of a row of a pair, read as a graph: blocks of variables, and pairs of variables that are not both to be true.
use Rattle.std.specs.Prelude.{◌≡◌, ◌⊎◌, ℕ, ◌<◌, ◌≤◌, ◌++◌, List, [], ◌∷◌, length, map, cond, Bool, false, Contains, slice_index_or, flat_map}
use Rattle.cnf_form.specs.declared.formula.Lit.{Lit}
pub use Rattle.cnf_form.specs.Literals.{positive, negative}
use Rattle.pair_refutation.specs.declared.graph.Pair.{Pair}

-- the clause of a pair: not both
abbrev pub not_both : Pair → List Lit
not_both p = negative p.left ∷ negative p.right ∷ []

-- the clauses of blocks, and then those of pairs
abbrev pub graph_clauses : List (List ℕ) → List Pair → List (List Lit)
graph_clauses blocks pairs = map (map positive) blocks ++ map not_both pairs

-- whether the first literal of a clause is positive
abbrev pub is_positive : List Lit → Bool
is_positive [] = false
is_positive (l ∷ ls) = l.positive

-- the block of a clause, if it is a block's
abbrev pub block_in : List Lit → List (List ℕ)
block_in c = cond (is_positive c) (map (λ (l : Lit). l.var) c ∷ []) []

-- the blocks among clauses
abbrev pub blocks_in : List (List Lit) → List (List ℕ)
blocks_in cs = flat_map block_in cs

-- the pair of a clause, if it is a pair's
abbrev pub pair_in : List Lit → List Pair
pair_in [] = []
pair_in (l ∷ []) = []
pair_in (l ∷ m ∷ []) = cond l.positive [] (record { left = l.var; right = m.var } ∷ [])
pair_in (l ∷ m ∷ k ∷ ls) = []

-- the pairs among clauses
abbrev pub pairs_in : List (List Lit) → List Pair
pairs_in cs = flat_map pair_in cs

-- the variables of all blocks, one after the other
abbrev pub all_of : List (List ℕ) → List ℕ
all_of blocks = flat_map (λ b. b) blocks

abbrev pub block_at : List (List ℕ) → ℕ → List ℕ
block_at blocks v = slice_index_or blocks v []

-- the variables are those of a pair
abbrev pub Meet : List Pair → ℕ → ℕ → Type 0
Meet pairs x y = Contains pairs (record { left = x; right = y })

abbrev pub AreAdjacent : List Pair → ℕ → ℕ → Type 0
AreAdjacent pairs x y = Meet pairs x y ⊎ Meet pairs y x

-- one variable, or two that meet one
abbrev pub AreBeside : List Pair → ℕ → ℕ → Type 0
AreBeside pairs x z = (x ≡ z) ⊎ (((y : ℕ) × Meet pairs x y × Meet pairs z y) ⊎ ((y : ℕ) × Meet pairs y x × Meet pairs y z))

abbrev pub IsInSomeBlock : List (List ℕ) → ℕ → Type 0
IsInSomeBlock blocks x = (v : ℕ) × (v < length blocks) × Contains (block_at blocks v) x

-- each variable is on one side, and those that meet one meet the same others
pub record ArePaired (vars : ℕ) (pairs : List Pair) : Type 0 where
  pub small : (x y : ℕ) → Meet pairs x y → y ≤ vars
  pub rises : (x y : ℕ) → Meet pairs x y → x < y
  pub sides : (x y z : ℕ) → Meet pairs x y → Meet pairs z x → ⊥
  pub square : (x y s t : ℕ) → Meet pairs x y → Meet pairs s y → Meet pairs x t → Meet pairs s t

-- The graph of a row's formula: variables that meet one are of one block, and none of a block meet.
pub record IsGraph (vars : ℕ) (blocks : List (List ℕ)) (pairs : List Pair) : Type 0 where
  pub paired : ArePaired vars pairs
  pub some : (v : ℕ) → v < length blocks → 0 < length (block_at blocks v)
  pub small : (v x : ℕ) → v < length blocks → Contains (block_at blocks v) x → (1 ≤ x) × (x ≤ vars)
  pub few : length (all_of blocks) ≤ vars
  pub listed : (x y : ℕ) → AreAdjacent pairs x y → IsInSomeBlock blocks x
  pub one : (u v x z : ℕ) → u < length blocks → v < length blocks → Contains (block_at blocks u) x → Contains (block_at blocks v) z → AreBeside pairs x z → u ≡ v
  pub apart : (v x y : ℕ) → v < length blocks → Contains (block_at blocks v) x → Contains (block_at blocks v) y → AreAdjacent pairs x y → ⊥
