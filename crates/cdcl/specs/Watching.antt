-- Watched literals (Moskewicz and others, 2001): each clause watches two, and one that is false excuses it by a true one, or is still to be looked at.
use Rattle.std.specs.Prelude.{◌≡◌, ◌≢◌, ◌<◌, ◌≤◌, ◌+◌, ◌⊎◌, ℕ, Bool, true, false, List, [], ◌∷◌, ◌++◌, length, slice_index_or, slice_set, Contains, take}
use Rattle.cnf_form.specs.declared.formula.Lit.{Lit}
use Rattle.cnf_form.specs.Literals.{opposite}
use Rattle.cdcl.specs.declared.watch.Pair.{Pair}
use Rattle.search_trail.specs.Trail.{At}
use Rattle.cdcl.specs.Settled.{AllSettledTo}

-- the place of a literal's list among the lists
abbrev pub sign_code : Bool → ℕ
sign_code true = 1
sign_code false = 0

abbrev pub code_of : Lit → ℕ
code_of l = l.var + l.var + sign_code l.positive

-- the clause of the index is in the list of the literal
abbrev pub IsWatchListed : List (List ℕ) → Lit → ℕ → Type 0
IsWatchListed lists l k = Contains (slice_index_or lists (code_of l) []) k

-- a list with an index at its end
abbrev pub listed_at : List (List ℕ) → ℕ → ℕ → List (List ℕ)
listed_at lists i k = slice_set lists i (slice_index_or lists i [] ++ k ∷ [])

-- the same where the list of one literal is taken out
abbrev pub IsListedBut : Lit → List ℕ → List (List ℕ) → Lit → ℕ → Type 0
IsListedBut out own lists l k = ((l ≡ out) → Contains own k) × ((l ≢ out) → IsWatchListed lists l k)

-- some literal of the clause is on the trail
abbrev pub HoldsIn : List Lit → List Lit → Type 0
HoldsIn t c = (m : Lit) × Contains c m × Contains t m

-- below all levels
abbrev pub IsBase : List Lit → List ℕ → List Lit → Type 0
IsBase t level_starts c = (q : ℕ) × (m : Lit) × Contains c m × At t q m × ((s : ℕ) → Contains level_starts s → q < s)

-- for a place of the trail: at no later level
abbrev pub IsExcused : List Lit → List ℕ → List Lit → ℕ → Type 0
IsExcused t level_starts c p = (q : ℕ) × (m : Lit) × Contains c m × At t q m × ((s : ℕ) → Contains level_starts s → p < s → q < s)

-- each place that was looked at and makes the watched literal false is excused
abbrev pub WatchIs : List Lit → List ℕ → ℕ → List Lit → Lit → Type 0
WatchIs t level_starts head c w = (p : ℕ) → p < head → At t p (opposite w) → IsExcused t level_starts c p

-- the clause of the index watches the two literals, and is listed with both
pub record IsPaired (R : Lit → ℕ → Type 0) (t : List Lit) (level_starts : List ℕ) (head k : ℕ) (c : List Lit) (pair : Pair) : Type 0 where
  pub apart : pair.first ≢ pair.second
  pub first : WatchIs t level_starts head c pair.first
  pub second : WatchIs t level_starts head c pair.second
  pub first_in : R pair.first k
  pub second_in : R pair.second k

-- The places below `head` were looked at, and the first clauses have pairs. Each that is permanent has a true literal below all
-- levels, or watches its pair, and was settled at the end of each level.
pub record IsWatching (R : Lit → ℕ → Type 0) (permanent : ℕ) (db : List (List Lit)) (t : List Lit) (level_starts : List ℕ) (head : ℕ) (pairs : List Pair) : Type 0 where
  pub head_in : head ≤ length t
  pub levels : (s : ℕ) → Contains level_starts s → s ≤ head
  pub some : length pairs ≤ length db
  pub inside : (k : ℕ) (c : List Lit) (pair : Pair) → At db k c → At pairs k pair → Contains c pair.first × Contains c pair.second
  pub ended : (s : ℕ) → Contains level_starts s → AllSettledTo permanent (take s t) db
  pub each : (k : ℕ) (c : List Lit) (pair : Pair) → k < permanent → At db k c → At pairs k pair → IsBase t level_starts c ⊎ IsPaired R t level_starts head k c pair

-- the permanent ones of some indexes are kept, and no others are added
pub record IsThinned (permanent : ℕ) (old new : List ℕ) : Type 0 where
  pub kept : (k : ℕ) → k < permanent → Contains old k → Contains new k
  pub fewer : (k : ℕ) → Contains new k → Contains old k

pub record AreThinned (permanent : ℕ) (old new : List (List ℕ)) : Type 0 where
  pub room : length new ≡ length old
  pub each : (i : ℕ) → IsThinned permanent (slice_index_or old i []) (slice_index_or new i [])

abbrev pub HasWatch : Pair → Lit → Type 0
HasWatch pair l = (pair.first ≡ l) ⊎ (pair.second ≡ l)

-- the pair is the two literals
abbrev pub IsPairOf : Pair → Lit → Lit → Type 0
IsPairOf pair l other = ((pair.first ≡ l) × (pair.second ≡ other)) ⊎ ((pair.second ≡ l) × (pair.first ≡ other))

-- each permanent clause that watches the literal is among the indexes, or holds
abbrev pub IsPending : ℕ → List Lit → List (List Lit) → List Pair → Lit → List ℕ → Type 0
IsPending permanent t db pairs l rest = (k : ℕ) (c : List Lit) (pair : Pair) → k < permanent → At db k c → At pairs k pair → HasWatch pair l → Contains rest k ⊎ HoldsIn t c

-- two lists for each variable, of the indexes of clauses that have pairs
pub record AreLists (lists : List (List ℕ)) (n count : ℕ) : Type 0 where
  pub room : length lists ≡ n + n
  pub below : (i k : ℕ) → Contains (slice_index_or lists i []) k → k < count
