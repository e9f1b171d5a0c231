-- The edges of variables and rows: rows of different blocks have one edge exactly where their variables meet.
use Rattle.std.specs.Prelude.{◌≡◌, ◌≢◌, ◌⊎◌, ℕ, ◌+◌, ◌<◌, ◌≤◌, List, length, slice_index, slice_index_or, map, Some, None}
use Rattle.weak_pairs.specs.declared.graph.Ends.{Ends}
use Rattle.weak_pairs.specs.Peeling.{IsBlockNumber, In, ends_of}
use Rattle.pair_refutation.specs.declared.graph.Pair.{Pair}
use Rattle.pair_refutation.specs.Graph.{Meet, AreAdjacent}

abbrev pub no_pair : Pair
no_pair = record { left = 0; right = 0 }

abbrev pub pair_at : List Pair → ℕ → Pair
pair_at pairs t = slice_index_or pairs t no_pair

-- the pair of these variables stands among the first k
abbrev pub IsPairSeen : List Pair → ℕ → ℕ → ℕ → Type 0
IsPairSeen pairs k x y = (t : ℕ) × (t < k) × (t < length pairs) × ((pair_at pairs t).left ≡ x) × ((pair_at pairs t).right ≡ y)

-- each variable is its own edge
pub record AreOwn (vars : ℕ) (edge : List ℕ) : Type 0 where
  pub size : length edge ≡ vars + 1
  pub own : (x : ℕ) → x ≤ vars → slice_index edge x ≡ x

-- what a variable's edge is after the first k pairs: the least left one that it met, or else itself
pub record AreLeast (pairs : List Pair) (vars k : ℕ) (edge : List ℕ) : Type 0 where
  pub size : length edge ≡ vars + 1
  pub low : (x y : ℕ) → IsPairSeen pairs k x y → slice_index edge y ≤ x
  pub from : (y : ℕ) → y ≤ vars → (slice_index edge y ≡ y) ⊎ IsPairSeen pairs k (slice_index edge y) y

-- and then the left ones of the first k pairs have the edges of the right ones
pub record AreLeft (pairs : List Pair) (vars k : ℕ) (least edge : List ℕ) : Type 0 where
  pub size : length edge ≡ vars + 1
  pub right : (x y : ℕ) → Meet pairs x y → slice_index edge y ≡ slice_index least y
  pub left : (x y : ℕ) → IsPairSeen pairs k x y → slice_index edge x ≡ slice_index least y
  pub rest : (z : ℕ) → ((y : ℕ) → Meet pairs z y → ⊥) → slice_index edge z ≡ slice_index least z

-- variables that meet have one edge, which is a left one that the right one meets; a variable that meets none is its own edge
pub record AreVarEdges (pairs : List Pair) (vars : ℕ) (edge : List ℕ) : Type 0 where
  pub size : length edge ≡ vars + 1
  pub same : (x y : ℕ) → Meet pairs x y → slice_index edge x ≡ slice_index edge y
  pub meets : (x y : ℕ) → Meet pairs x y → Meet pairs (slice_index edge y) y
  pub own : (z : ℕ) → z ≤ vars → ((y : ℕ) → AreAdjacent pairs z y → ⊥) → slice_index edge z ≡ z

-- each row has the edge of its variable
abbrev pub AreOfVars : List Pair → ℕ → List ℕ → List ℕ → Type 0
AreOfVars pairs vars var edge = (of_var : List ℕ) × AreVarEdges pairs vars of_var × (edge ≡ map (λ x. slice_index of_var x) var)

-- rows of different blocks have one edge exactly where their variables are of one pair
pub record AreRowEdges (pairs : List Pair) (vars : ℕ) (start var edge : List ℕ) : Type 0 where
  pub size : length edge ≡ length var
  pub small : (i : ℕ) → i < length edge → slice_index edge i < vars + 1
  pub same : (i j : ℕ) → i < length edge → j < length edge → AreAdjacent pairs (slice_index var i) (slice_index var j) → slice_index edge i ≡ slice_index edge j
  pub meets : (u v i j : ℕ) → IsBlockNumber start u → IsBlockNumber start v → u ≢ v → In start u i → In start v j → slice_index edge i ≡ slice_index edge j → AreAdjacent pairs (slice_index var i) (slice_index var j)

-- an edge occurs in two blocks at most
abbrev pub IsTwoEnded : List ℕ → List ℕ → Type 0
IsTwoEnded start edge =
    (u v w i j k : ℕ) → IsBlockNumber start u → IsBlockNumber start v → IsBlockNumber start w → In start u i → In start v j → In start w k →
    slice_index edge i ≡ slice_index edge k → slice_index edge j ≡ slice_index edge k → u ≢ v → (w ≡ u) ⊎ (w ≡ v)

-- of the blocks before v, and of v's rows before i, each row's block is an end of its edge, and each end is a block with a
-- row of that edge
pub record AreEndsSoFar (start edge : List ℕ) (ends : List Ends) (count v i : ℕ) : Type 0 where
  pub size : length ends ≡ count
  pub occurs : (u j : ℕ) → IsBlockNumber start u → In start u j → (u < v) ⊎ ((u ≡ v) × (j < i)) → ((ends_of ends (slice_index edge j)).left ≡ Some u) ⊎ ((ends_of ends (slice_index edge j)).right ≡ Some u)
  pub left : (e u : ℕ) → (ends_of ends e).left ≡ Some u → IsBlockNumber start u × ((j : ℕ) × In start u j × (slice_index edge j ≡ e))
  pub right : (e u : ℕ) → (ends_of ends e).right ≡ Some u → IsBlockNumber start u × ((j : ℕ) × In start u j × (slice_index edge j ≡ e))
  pub apart : (e u : ℕ) → (ends_of ends e).left ≡ Some u → (ends_of ends e).right ≡ Some u → ⊥
  pub full : (e u : ℕ) → (ends_of ends e).right ≡ Some u → (ends_of ends e).left ≡ None → ⊥

-- the block is an end; it takes a place that is free, or that of the right end
abbrev pub AddsEnd : Ends → ℕ → Ends → Type 0
AddsEnd old v new =
    ((old.left ≡ None) × (new.left ≡ Some v) × (new.right ≡ old.right)) ⊎
    (((old.left ≡ Some v) × (new ≡ old)) ⊎
    ((u : ℕ) × (old.left ≡ Some u) × (u ≢ v) × (new.left ≡ Some u) × (new.right ≡ Some v)))
