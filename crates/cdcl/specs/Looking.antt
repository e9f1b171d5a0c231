-- What a solver with watched literals keeps true, and what its steps come to.
use Rattle.std.specs.Prelude.{◌≡◌, ◌≢◌, ◌<◌, ℕ, List, [], ◌∷◌, ◌++◌, length, Contains, Option, Some, None}
use Rattle.cnf_form.specs.declared.formula.Lit.{Lit}
use Rattle.cnf_form.specs.Literals.{Denied, literals}
use Rattle.search_trail.specs.declared.trail.Entry.{Entry}
use Rattle.cdcl.specs.declared.watch.Pair.{Pair}
use Rattle.cdcl.specs.declared.look.Found.{Found}
use Rattle.cdcl.specs.declared.solver.Solver.{Solver}
use Rattle.cdcl.specs.declared.look.Visit.{Visit}
use Rattle.cdcl.specs.declared.look.Visit.TheVariants.{Kept, Dropped, Conflict}
use Rattle.search_trail.specs.Trail.{At, held}
use Rattle.cdcl.specs.Looks.{IsForced, LookFinds}
use Rattle.cdcl.specs.State.{IsSearchState, IsSound}
use Rattle.cdcl.specs.Watching.{IsWatchListed, IsListedBut, WatchIs, IsWatching, IsPending, AreLists}
use Rattle.cdcl.specs.Visits.{IsConflict}

-- the first clauses watch their literals
pub record IsWatchful (s : Solver) : Type 0 where
  pub sound : IsSound s
  pub watching : IsWatching (IsWatchListed s.lists.items) s.permanent (literals s.clauses.items) (held s.trail.items) s.level_starts.items s.head s.pairs.items
  pub lists : AreLists s.lists.items (length s.places.items) (length s.pairs.items)

-- all clauses do
pub record IsReady (s : Solver) : Type 0 where
  pub watchful : IsWatchful s
  pub all : length s.pairs.items ≡ length s.clauses.items

-- no level has started, and nothing was looked at
pub record IsUntouched (s : Solver) : Type 0 where
  pub level_starts : s.level_starts.items ≡ []
  pub head : s.head ≡ 0

pub record IsUnattached (s : Solver) : Type 0 where
  pub watchful : IsWatchful s
  pub first : IsUntouched s
  pub none : s.pairs.items ≡ []

-- The clauses of a literal's list are looked through: those of the indexes kept are done with.
pub record IsLooking (permanent : ℕ) (db : List (List Lit)) (trail : List Entry) (places : List (Option ℕ)) (level_starts : List ℕ) (head : ℕ) (pairs : List Pair) (lists : List (List ℕ))
    (lit : Lit) (kept rest : List ℕ) : Type 0 where
  pub sound : IsSearchState db trail places level_starts
  pub denied : Denied (held trail) lit
  pub watching : IsWatching (IsListedBut lit (kept ++ rest) lists) permanent db (held trail) level_starts head pairs
  pub lists_are : AreLists lists (length places) (length pairs)
  pub entries : (k : ℕ) → Contains (kept ++ rest) k → k < length pairs
  pub pending : IsPending permanent (held trail) db pairs lit rest

abbrev pub IsLookingAt : Solver → Lit → List ℕ → List ℕ → Type 0
IsLookingAt s lit kept rest =
    IsLooking s.permanent (literals s.clauses.items) s.trail.items s.places.items s.level_starts.items s.head s.pairs.items s.lists.items lit kept rest

abbrev pub VisitIs : Solver → Lit → List ℕ → List ℕ → ℕ → Visit → Type 0
VisitIs s lit kept rest k Kept = IsLookingAt s lit (kept ++ k ∷ []) rest
VisitIs s lit kept rest k Dropped = IsLookingAt s lit kept rest
VisitIs s lit kept rest k Conflict = IsLookingAt s lit kept (k ∷ rest) × IsConflict s k

-- all clauses of the list hold or watch other literals, or one is false
abbrev pub LookedIs : Solver → Lit → Option ℕ → Type 0
LookedIs s lit None = IsPending s.permanent (held s.trail.items) (literals s.clauses.items) s.pairs.items lit []
LookedIs s lit (Some k) = IsConflict s k

abbrev pub FoundIsAt : Solver → ℕ → Lit → Found → Type 0
FoundIsAt s k other found = (c : List Lit) → At (literals s.clauses.items) k c → LookFinds (held s.trail.items) c other found

abbrev pub IsForcedIn : List (List Lit) → List Lit → ℕ → Lit → Type 0
IsForcedIn db t k l = (c : List Lit) × At db k c × IsForced t c l

-- the literal is put on the trail
abbrev pub IsEnqueued : List Entry → Lit → List Entry → Type 0
IsEnqueued old l new = (e : Entry) × (e.lit ≡ l) × (new ≡ old ++ e ∷ [])

abbrev pub IsGrown : List Lit → List Lit → Type 0
IsGrown t u = (more : List Lit) × (u ≡ t ++ more)

-- the clauses stay, the number of variables, and from which place on clauses may be forgotten
pub record IsSameFormula (old new : Solver) : Type 0 where
  pub clauses : new.clauses ≡ old.clauses
  pub permanent : new.permanent ≡ old.permanent
  pub len : length new.places.items ≡ length old.places.items

-- of what answers rest on, all but the trail stays
pub record IsSameBeside (old new : Solver) : Type 0 where
  pub formula : IsSameFormula old new
  pub level_starts : new.level_starts ≡ old.level_starts
  pub head : new.head ≡ old.head
  pub pairs : new.pairs ≡ old.pairs
  pub lists : new.lists ≡ old.lists

-- of that, all but what is watched stays
pub record IsSameAttached (old new : Solver) : Type 0 where
  pub formula : IsSameFormula old new
  pub level_starts : new.level_starts ≡ old.level_starts
  pub head : new.head ≡ old.head
  pub trail : new.trail ≡ old.trail

-- of that, all but the trail and what is watched stays
pub record Stays (old new : Solver) : Type 0 where
  pub formula : IsSameFormula old new
  pub level_starts : new.level_starts ≡ old.level_starts
  pub head : new.head ≡ old.head
  pub count : length new.pairs.items ≡ length old.pairs.items

-- the next clause has the two literals, and what is asked of it holds
abbrev pub CanWatch : Solver → (List Lit → Type 0) → Lit → Lit → Type 0
CanWatch s P a b = (c : List Lit) × At (literals s.clauses.items) (length s.pairs.items) c × Contains c a × Contains c b × P c

-- the two may be watched
abbrev pub IsPairFor : Solver → Lit → Lit → List Lit → Type 0
IsPairFor s a b c = (a ≢ b) × WatchIs (held s.trail.items) s.level_starts.items s.head c a × WatchIs (held s.trail.items) s.level_starts.items s.head c b
