-- How the clauses of a formula get what they watch, before any level starts.
use Rattle.std.proofs.Common.{◌≡◌, ℕ, List, [], ◌∷◌, ◌++◌, sym, ◌∙◌, ap, subst, arith, length}
use Rattle.std.specs.Prelude.{Contains, Vec}
use Rattle.std.specs.declared.alloc.Global.{Global}
use Rattle.std.proofs.lemmas.List.Elements.{Contains-push}
use Rattle.cnf_form.specs.declared.formula.Lit.{Lit}
use Rattle.cnf_form.specs.declared.formula.Clause.{Clause}
use Rattle.cnf_form.specs.Literals.{literals, Denied}
use Rattle.cdcl.specs.declared.watch.Pair.{Pair}
use Rattle.cdcl.specs.declared.solver.Solver.{Solver}
use Rattle.search_trail.specs.Trail.{IsUnassigned, At, held}
use Rattle.cdcl.specs.State.{IsSound}
use Rattle.cdcl.specs.Watching.{IsWatchListed, IsWatching, IsBase, AreLists}
use Rattle.cdcl.specs.Looking.{IsEnqueued, IsSameBeside, IsForcedIn, IsWatchful, IsUntouched, CanWatch}
use Rattle.cdcl.specs.Visits.{IsConflict}
use Rattle.search_trail.proofs.Works.{At-same}
use Rattle.cdcl.proofs.States.{held_push, literals_count}
use Rattle.cdcl.proofs.WatchState.{watching_put}

conflict_by : (s : Solver) (k : ℕ) (xs : List Lit) → At (literals s.clauses.items) k xs → ((m : Lit) → Contains xs m → Denied (held s.trail.items) m) → IsConflict s k
conflict_by s k xs at denied = (
  (let n = literals_count s.clauses.items in omega (arith, at.0, n)),
  λ c a m i. denied m (subst (λ (ys : List Lit). Contains ys m) (At-same (literals s.clauses.items) k c xs a at) i),
)

pub conflict_none : (s : Solver) (k : ℕ) (xs : List Lit) → At (literals s.clauses.items) k xs → ((m : Lit) → Contains xs m → ⊥) → IsConflict s k
conflict_none s k xs at none = conflict_by s k xs at (λ m i. absurd (none m i))

pub conflict_one : (s : Solver) (k : ℕ) (xs : List Lit) (l : Lit) → At (literals s.clauses.items) k xs → ((m : Lit) → Contains xs m → m ≡ l)
    → Denied (held s.trail.items) l → IsConflict s k
conflict_one s k xs l at one denied = conflict_by s k xs at (λ m i. subst (λ (x : Lit). Denied (held s.trail.items) x) (sym (one m i)) denied)

pub forced_one : (s : Solver) (k : ℕ) (xs : List Lit) (l : Lit) → At (literals s.clauses.items) k xs → Contains xs l → ((m : Lit) → Contains xs m → m ≡ l)
    → IsUnassigned (held s.trail.items) l.var → IsForcedIn (literals s.clauses.items) (held s.trail.items) k l
forced_one s k xs l at inside one free = (xs, at, record { inside = inside; free = free; others = λ m i n. absurd (n (one m i)) })

-- what is true before any level starts is below all levels
pub base_one : (s : Solver) (k : ℕ) (xs : List Lit) (l : Lit) → IsUntouched s → k ≡ length s.pairs.items → At (literals s.clauses.items) k xs → Contains xs l
    → Contains (held s.trail.items) l → CanWatch s (IsBase (held s.trail.items) s.level_starts.items) l l
base_one s k xs l first e at inside holds = (
  xs,
  subst (λ (n : ℕ). At (literals s.clauses.items) n xs) e at,
  inside,
  inside,
  (
    holds.0,
    l,
    inside,
    (holds.1, holds.2),
    λ x i. let j : Contains [] x = subst (λ (ys : List ℕ). Contains ys x) first.level_starts i in absurd (omega (arith, j.1)),
  ),
)

pub forced_watchful : (s s' : Solver) (l : Lit) → IsWatchful s → IsSameBeside s s' → IsEnqueued s.trail.items l s'.trail.items → IsSound s' → IsWatchful s'
forced_watchful s s' l w same put sound =
    let db = literals s.clauses.items in
    let R = IsWatchListed s.lists.items in
    let t : held s'.trail.items ≡ held s.trail.items ++ put.0.lit ∷ [] = ap held put.2 ∙ held_push s.trail.items put.0 in
    let watching : IsWatching R s.permanent db (held s.trail.items ++ put.0.lit ∷ []) s.level_starts.items s.head s.pairs.items =
    watching_put R db (held s.trail.items) s.level_starts.items s.head s.pairs.items put.0.lit w.watching in
    record {
      sound = sound;
      watching = subst (λ (n : ℕ). IsWatching (IsWatchListed s'.lists.items) n (literals s'.clauses.items) (held s'.trail.items) s'.level_starts.items s'.head s'.pairs.items) (sym same.formula.permanent)
          (subst (λ (x : Vec (List ℕ) Global). IsWatching (IsWatchListed x.items) s.permanent (literals s'.clauses.items) (held s'.trail.items) s'.level_starts.items s'.head s'.pairs.items) (sym same.lists)
          (subst (λ (x : Vec Clause Global). IsWatching R s.permanent (literals x.items) (held s'.trail.items) s'.level_starts.items s'.head s'.pairs.items) (sym same.formula.clauses)
          (subst (λ (x : Vec ℕ Global). IsWatching R s.permanent db (held s'.trail.items) x.items s'.head s'.pairs.items) (sym same.level_starts)
          (subst (λ (h : ℕ). IsWatching R s.permanent db (held s'.trail.items) s.level_starts.items h s'.pairs.items) (sym same.head)
          (subst (λ (x : Vec Pair Global). IsWatching R s.permanent db (held s'.trail.items) s.level_starts.items s.head x.items) (sym same.pairs)
          (subst (λ (xs : List Lit). IsWatching R s.permanent db xs s.level_starts.items s.head s.pairs.items) (sym t) watching))))));
      lists = subst (λ (x : Vec (List ℕ) Global). AreLists x.items (length s'.places.items) (length s'.pairs.items)) (sym same.lists)
          (subst (λ (x : Vec Pair Global). AreLists s.lists.items (length s'.places.items) (length x.items)) (sym same.pairs)
          (subst (λ (n : ℕ). AreLists s.lists.items n (length s.pairs.items)) (sym same.formula.len) w.lists));
    }

pub first_same : (s s' : Solver) → s'.level_starts ≡ s.level_starts → s'.head ≡ s.head → IsUntouched s → IsUntouched s'
first_same s s' e h f = record { level_starts = subst (λ (x : Vec ℕ Global). x.items ≡ []) (sym e) f.level_starts; head = h ∙ f.head }

-- a literal that its clause forces there is too
pub forced_base : (s s' : Solver) (k : ℕ) (xs : List Lit) (l : Lit) → IsUntouched s → k ≡ length s.pairs.items → At (literals s.clauses.items) k xs → Contains xs l
    → IsSameBeside s s' → IsEnqueued s.trail.items l s'.trail.items → CanWatch s' (IsBase (held s'.trail.items) s'.level_starts.items) l l
forced_base s s' k xs l first e at inside same put =
    let t : held s'.trail.items ≡ held s.trail.items ++ l ∷ [] =
    ap held put.2 ∙ held_push s.trail.items put.0 ∙ ap (λ (y : Lit). held s.trail.items ++ y ∷ []) put.1 in
    let holds : Contains (held s'.trail.items) l = subst (λ (ys : List Lit). Contains ys l) (sym t) (Contains-push (held s.trail.items) l) in
    base_one s' k xs l (first_same s s' same.level_starts same.head first) (e ∙ ap (λ (v : Vec Pair Global). length v.items) (sym same.pairs))
    (subst (λ (v : Vec Clause Global). At (literals v.items) k xs) (sym same.formula.clauses) at) inside holds
