-- Visits to the clauses of a literal's list.
use Rattle.std.proofs.Common.{take, drop, set, get_or, append_assoc, ◌≡◌, ℕ, ◌<◌, ◌≤◌, ◌+◌, List, [], ◌∷◌, ◌++◌, inl, inr, refl, sym, ◌∙◌, ap, subst, arith, length}
use Rattle.std.specs.Prelude.{Contains, Vec}
use Rattle.std.specs.declared.alloc.Global.{Global}
use Rattle.std.proofs.lemmas.List.{length-append, take_more_set}
use Rattle.std.proofs.lemmas.List.Elements.{Contains-append_right}
use Rattle.cqa_value.proofs.Words.{mem-head}
use Rattle.cnf_form.specs.declared.formula.Lit.{Lit}
use Rattle.cnf_form.specs.declared.formula.Clause.{Clause}
use Rattle.cnf_form.specs.Literals.{literals, Denied, opposite}
use Rattle.search_trail.specs.declared.trail.Entry.{Entry}
use Rattle.cdcl.specs.declared.watch.Pair.{Pair}
use Rattle.cdcl.specs.declared.solver.Solver.{Solver}
use Rattle.cdcl.specs.declared.look.Visit.{Visit}
use Rattle.cdcl.specs.declared.look.Visit.TheVariants.{Conflict}
use Rattle.search_trail.specs.Trail.{At, held}
use Rattle.cdcl.specs.State.{IsSearchState, IsSound}
use Rattle.cdcl.specs.Watching.{HasWatch, IsPairOf, code_of, IsPending, IsWatching, IsWatchListed, AreLists}
use Rattle.cdcl.specs.Looking.{IsSameFormula, IsLooking, IsLookingAt, IsEnqueued, IsSameBeside, IsReady, IsGrown, Stays, VisitIs}
use Rattle.cdcl.specs.Visits.{IsConflict, IsStill}
use Rattle.search_trail.proofs.Works.{At-same}
use Rattle.search_trail.proofs.Places.{At-push_old, consistent, trail_fits}
use Rattle.cdcl.proofs.States.{db_at, literals_count, length_held}
use Rattle.cdcl.proofs.WatchState.{code_small, watching_next, watching_settled}
use Rattle.cdcl.proofs.Stretches.{drop_set, next_index}
use Rattle.cdcl.proofs.LookState.{looking_kept, looking_drop, looking_force, looking_first, looking_last}

pub small_at : (s : Solver) (lit : Lit) (kept rest : List ℕ) (k : ℕ) → IsLookingAt s lit kept (k ∷ rest) → k < length s.pairs.items
small_at s lit kept rest k l = l.entries k (Contains-append_right kept (k ∷ rest) k (mem-head k rest))

pub within_at : (s : Solver) (lit : Lit) (kept rest : List ℕ) (k : ℕ) → IsLookingAt s lit kept (k ∷ rest) → k < length s.clauses.items
within_at s lit kept rest k l =
    let a = small_at s lit kept rest k l in let b = l.watching.some in let n = literals_count s.clauses.items in omega (arith, a, b, n)

pub clause_at : (s : Solver) (lit other : Lit) (kept rest : List ℕ) (k : ℕ) (pair : Pair) → At s.pairs.items k pair → IsPairOf pair lit other
    → IsLookingAt s lit kept (k ∷ rest) → (c : List Lit) × At (literals s.clauses.items) k c × Contains c other
clause_at s lit other kept rest k pair at of l =
    let d = db_at s.clauses.items k (within_at s lit kept rest k l) in
    let i = l.watching.inside k d.0 pair d.1 at in
    let o : Contains d.0 other = elim of [
      | inl q ↦ subst (λ (x : Lit). Contains d.0 x) q.1 i.1
      | inr q ↦ subst (λ (x : Lit). Contains d.0 x) q.1 i.0
    ] in
    (d.0, d.1, o)

pub drop_at : (s : Solver) (lit : Lit) (kept rest : List ℕ) (k : ℕ) (pair : Pair) → At s.pairs.items k pair → (HasWatch pair lit → ⊥)
    → IsLookingAt s lit kept (k ∷ rest) → IsLookingAt s lit kept rest
drop_at s lit kept rest k pair at none l =
    looking_drop (literals s.clauses.items) s.trail.items s.places.items s.level_starts.items s.head s.pairs.items s.lists.items lit kept rest k
    (λ p a h. none (subst (λ (x : Pair). HasWatch x lit) (At-same s.pairs.items k p pair a at) h)) l

pub kept_at : (s : Solver) (lit other : Lit) (kept rest : List ℕ) (k : ℕ) (pair : Pair) → At s.pairs.items k pair → IsPairOf pair lit other
    → Contains (held s.trail.items) other → IsLookingAt s lit kept (k ∷ rest) → IsLookingAt s lit (kept ++ k ∷ []) rest
kept_at s lit other kept rest k pair at of holds l =
    let d = clause_at s lit other kept rest k pair at of l in
    looking_kept (literals s.clauses.items) s.trail.items s.places.items s.level_starts.items s.head s.pairs.items s.lists.items lit kept rest k
    (λ c a. (other, subst (λ (xs : List Lit). Contains xs other) (At-same (literals s.clauses.items) k d.0 c d.1 a) d.2, holds)) l

pub force_at : (s s' : Solver) (lit other : Lit) (kept rest : List ℕ) (k : ℕ) (pair : Pair) → At s.pairs.items k pair → IsPairOf pair lit other
    → IsSameBeside s s' → IsEnqueued s.trail.items other s'.trail.items → IsSound s' → IsLookingAt s lit kept (k ∷ rest) → IsLookingAt s' lit (kept ++ k ∷ []) rest
force_at s s' lit other kept rest k pair at of same put sound l =
    let d = clause_at s lit other kept rest k pair at of l in
    let st : IsSearchState (literals s.clauses.items) s'.trail.items s'.places.items s.level_starts.items =
    subst (λ (v : Vec ℕ Global). IsSearchState (literals s.clauses.items) s'.trail.items s'.places.items v.items) same.level_starts
    (subst (λ (v : Vec Clause Global). IsSearchState (literals v.items) s'.trail.items s'.places.items s'.level_starts.items) same.formula.clauses sound) in
    let r : IsLooking s.permanent (literals s.clauses.items) s'.trail.items s'.places.items s.level_starts.items s.head s.pairs.items s.lists.items lit (kept ++ k ∷ []) rest =
    looking_force (literals s.clauses.items) s.trail.items s'.trail.items s.places.items s'.places.items s.level_starts.items s.head s.pairs.items s.lists.items lit kept rest k
    put.0 put.2 st same.formula.len
    (λ c a. subst (λ (x : Lit). Contains c x) (sym put.1) (subst (λ (xs : List Lit). Contains xs other) (At-same (literals s.clauses.items) k d.0 c d.1 a) d.2)) l in
    subst (λ (n : ℕ). IsLooking n (literals s'.clauses.items) s'.trail.items s'.places.items s'.level_starts.items s'.head s'.pairs.items s'.lists.items lit (kept ++ k ∷ []) rest) (sym same.formula.permanent)
    (subst (λ (v : Vec Clause Global). IsLooking s.permanent (literals v.items) s'.trail.items s'.places.items s'.level_starts.items s'.head s'.pairs.items s'.lists.items lit (kept ++ k ∷ []) rest) (sym same.formula.clauses)
    (subst (λ (v : Vec ℕ Global). IsLooking s.permanent (literals s.clauses.items) s'.trail.items s'.places.items v.items s'.head s'.pairs.items s'.lists.items lit (kept ++ k ∷ []) rest) (sym same.level_starts)
    (subst (λ (h : ℕ). IsLooking s.permanent (literals s.clauses.items) s'.trail.items s'.places.items s.level_starts.items h s'.pairs.items s'.lists.items lit (kept ++ k ∷ []) rest) (sym same.head)
    (subst (λ (v : Vec Pair Global). IsLooking s.permanent (literals s.clauses.items) s'.trail.items s'.places.items s.level_starts.items s.head v.items s'.lists.items lit (kept ++ k ∷ []) rest) (sym same.pairs)
    (subst (λ (v : Vec (List ℕ) Global). IsLooking s.permanent (literals s.clauses.items) s'.trail.items s'.places.items s.level_starts.items s.head s.pairs.items v.items lit (kept ++ k ∷ []) rest) (sym same.lists) r)))))

pub code_in : (s : Solver) (lit : Lit) → IsSound s → Denied (held s.trail.items) lit → code_of lit < length s.places.items + length s.places.items
code_in s lit sound d = code_small lit (length s.places.items) (sound.held_in (opposite lit) d)

pub first_at : (s : Solver) (lit : Lit) (lists : Vec (List ℕ) Global) (list : List ℕ) → IsReady s → At (held s.trail.items) s.head (opposite lit)
    → list ≡ get_or s.lists.items (code_of lit) [] → lists.items ≡ set s.lists.items (code_of lit) [] → IsLookingAt (record s { lists = lists }) lit [] list
first_at s lit lists list ready next own left =
    subst (λ (ls : List (List ℕ)). IsLooking s.permanent (literals s.clauses.items) s.trail.items s.places.items s.level_starts.items s.head s.pairs.items ls lit [] list) (sym left)
    (looking_first (literals s.clauses.items) s.trail.items s.places.items s.level_starts.items s.head s.pairs.items s.lists.items lit list
    ready.watchful.sound next own ready.watchful.lists ready.watchful.watching)

-- what a visit to the clause at a place of the list tells
pub visited_at : (s s' : Solver) (lit : Lit) (list : List ℕ) (kept at x : ℕ) (v : Visit) → at < length list → x ≡ get_or list at x → IsLookingAt s lit (take kept list) (drop at list)
    → ((front rest : List ℕ) → IsLookingAt s lit front (x ∷ rest) → VisitIs s' lit front rest x v) → VisitIs s' lit (take kept list) (drop (at + 1) list) x v
visited_at s s' lit list kept at x v h is looking visit =
    visit (take kept list) (drop (at + 1) list) (subst (λ (xs : List ℕ). IsLookingAt s lit (take kept list) xs) (next_index list at x h is) looking)

pub conflict_at : (s s' : Solver) (lit : Lit) (list : List ℕ) (kept at x : ℕ) (v : Visit) → at < length list → x ≡ get_or list at x → IsLookingAt s lit (take kept list) (drop at list)
    → ((front rest : List ℕ) → IsLookingAt s lit front (x ∷ rest) → VisitIs s' lit front rest x v) → v ≡ Conflict
    → IsLookingAt s' lit (take kept list) (x ∷ drop (at + 1) list) × IsConflict s' x
conflict_at s s' lit list kept at x v h is looking visit e =
    subst (λ (w : Visit). VisitIs s' lit (take kept list) (drop (at + 1) list) x w) e (visited_at s s' lit list kept at x v h is looking visit)

pub last_at : (s : Solver) (lit : Lit) (lists : Vec (List ℕ) Global) (kept rest list : List ℕ) → length s.pairs.items ≡ length s.clauses.items
    → list ≡ kept ++ rest → lists.items ≡ set s.lists.items (code_of lit) list → IsLookingAt s lit kept rest → IsReady (record s { lists = lists })
last_at s lit lists kept rest list all own put l =
    let range = code_in s lit l.sound l.denied in
    let r = looking_last (literals s.clauses.items) s.trail.items s.places.items s.level_starts.items s.head s.pairs.items s.lists.items lit kept rest list own
    (omega (arith, range, l.lists_are.room)) l in
    record {
      watchful = record {
        sound = l.sound;
        watching = subst (λ (ls : List (List ℕ)). IsWatching (IsWatchListed ls) s.permanent (literals s.clauses.items) (held s.trail.items) s.level_starts.items s.head s.pairs.items) (sym put) r.1;
        lists = subst (λ (ls : List (List ℕ)). AreLists ls (length s.places.items) (length s.pairs.items)) (sym put) r.0;
      };
      all = all;
    }

-- a place of the trail stays what it is
pub grown_at : (t u : List Lit) (k n : ℕ) (l : Lit) → IsGrown t u → n ≡ k → At t k l → At u n l
grown_at t u k n l g e a =
    subst (λ (xs : List Lit). At xs n l) (sym g.1) (At-push_old t g.0 n l (subst (λ (i : ℕ). At t i l) (sym e) a))

-- the list of the next literal was looked through
pub next_at : (s : Solver) (h : ℕ) (lit : Lit) → h ≡ s.head + 1 → At (held s.trail.items) s.head (opposite lit)
    → IsPending s.permanent (held s.trail.items) (literals s.clauses.items) s.pairs.items lit [] → IsReady s → IsReady (record s { head = h })
next_at s h lit e at pending ready = record {
  watchful = record {
    sound = ready.watchful.sound;
    watching = subst (λ (n : ℕ). IsWatching (IsWatchListed s.lists.items) s.permanent (literals s.clauses.items) (held s.trail.items) s.level_starts.items n s.pairs.items) (sym e)
        (watching_next (IsWatchListed s.lists.items) (literals s.clauses.items) (held s.trail.items) s.level_starts.items s.head s.pairs.items lit at pending ready.watchful.watching);
    lists = ready.watchful.lists;
  };
  all = ready.all;
}

pub grown_same : (t : List Lit) → IsGrown t t
grown_same t = ([], none t)
  where
    none : (xs : List Lit) → xs ≡ xs ++ []
    none [] = refl
    none (x ∷ xs) = ap (λ (ys : List Lit). x ∷ ys) (none xs)

pub grown_more : (t u v : List Lit) → IsGrown t u → IsGrown u v → IsGrown t v
grown_more t u v a b = (a.0 ++ b.0, b.1 ∙ ap (λ (xs : List Lit). xs ++ b.0) a.1 ∙ append_assoc t a.0 b.0)

pub formula_more : (s s' s'' : Solver) → IsSameFormula s s' → IsSameFormula s' s'' → IsSameFormula s s''
formula_more s s' s'' a b = record { clauses = b.clauses ∙ a.clauses; permanent = b.permanent ∙ a.permanent; len = b.len ∙ a.len }

pub stays_more : (s s' s'' : Solver) → Stays s s' → Stays s' s'' → Stays s s''
stays_more s s' s'' a b = record {
  formula = formula_more s s' s'' a.formula b.formula;
  level_starts = b.level_starts ∙ a.level_starts;
  head = b.head ∙ a.head;
  count = b.count ∙ a.count;
}

pub stays_all : (s s' : Solver) → Stays s s' → length s.pairs.items ≡ length s.clauses.items → length s'.pairs.items ≡ length s'.clauses.items
stays_all s s' a all = a.count ∙ all ∙ ap (λ (v : Vec Clause Global). length v.items) (sym a.formula.clauses)

-- after a visit the next index is looked at: the clause is dropped, or its index is moved to the end of those kept
pub dropped_next : (s : Solver) (lit : Lit) (kept at kept' : ℕ) (list list' : List ℕ) → kept' ≡ kept → list' ≡ list
    → IsLookingAt s lit (take kept list) (drop (at + 1) list) → IsLookingAt s lit (take kept' list') (drop (at + 1) list')
dropped_next s lit kept at kept' list list' e f l =
    subst (λ (xs : List ℕ). IsLookingAt s lit (take kept' xs) (drop (at + 1) xs)) (sym f)
    (subst (λ (n : ℕ). IsLookingAt s lit (take n list) (drop (at + 1) list)) (sym e) l)

pub kept_next : (s : Solver) (lit : Lit) (kept at kept' x : ℕ) (list list' : List ℕ) → kept ≤ at → at < length list → kept' ≡ kept + 1 → list' ≡ set list kept x
    → IsLookingAt s lit (take kept list ++ x ∷ []) (drop (at + 1) list) → IsLookingAt s lit (take kept' list') (drop (at + 1) list')
kept_next s lit kept at kept' x list list' order range e f l =
    let front : take kept' list' ≡ take kept list ++ x ∷ [] =
    ap (λ (xs : List ℕ). take kept' xs) f ∙ ap (λ (n : ℕ). take n (set list kept x)) e ∙ take_more_set list kept x (omega (arith, order, range)) in
    let back : drop (at + 1) list' ≡ drop (at + 1) list =
    ap (λ (xs : List ℕ). drop (at + 1) xs) f ∙ drop_set list kept x (at + 1) (omega (arith, order)) in
    subst (λ (xs : List ℕ). IsLookingAt s lit xs (drop (at + 1) list')) (sym front) (subst (λ (xs : List ℕ). IsLookingAt s lit (take kept list ++ x ∷ []) xs) (sym back) l)

-- where the whole trail was looked at, permanent clauses force nothing more
pub still_at : (s : Solver) → IsReady s → length s.trail.items ≤ s.head → IsStill s
still_at s ready whole =
    let n = literals_count s.clauses.items in
    let h = length_held s.trail.items in
    watching_settled (IsWatchListed s.lists.items) (literals s.clauses.items) (held s.trail.items) s.level_starts.items s.head s.pairs.items
    (consistent (held s.trail.items) s.places.items ready.watchful.sound.places_are) (omega (arith, whole, h)) (ready.all ∙ sym n) ready.watchful.watching

pub fits_at : (s : Solver) → IsReady s → length s.trail.items ≤ length s.places.items
fits_at s ready =
    let f = trail_fits (held s.trail.items) s.places.items ready.watchful.sound.places_are ready.watchful.sound.held_in in
    let h = length_held s.trail.items in
    omega (arith, f, h)

pub grown_long : (t u : List Entry) → IsGrown (held t) (held u) → length t ≤ length u
grown_long t u g =
    let a = length_held t in
    let b = length_held u in
    let c : length (held u) ≡ length (held t ++ g.0) = ap (λ (xs : List Lit). length xs) g.1 in
    let d : length (held t ++ g.0) ≡ length (held t) + length g.0 = length-append (held t) g.0 in
    omega (arith, a, b, c, d)
