-- How a solver watches a clause that it has learnt.
use Rattle.std.proofs.Common.{take, ◌≡◌, ℕ, zero, suc, ◌<◌, ◌+◌, ◌-◌, List, [], ◌∷◌, ◌++◌, refl, sym, ◌∙◌, ap, subst, arith, length}
use Rattle.std.specs.Prelude.{Contains, Vec}
use Rattle.std.specs.declared.alloc.Global.{Global}
use Rattle.cnf_form.specs.declared.formula.Lit.{Lit}
use Rattle.cnf_form.specs.declared.formula.Clause.{Clause}
use Rattle.cnf_form.specs.Literals.{literals, Denied, opposite}
use Rattle.cnf_form.proofs.Lits.{opposite-opposite}
use Rattle.cdcl.specs.declared.watch.Pair.{Pair}
use Rattle.cdcl.specs.declared.solver.Solver.{Solver}
use Rattle.search_trail.specs.Trail.{At, held}
use Rattle.cdcl.specs.Settled.{IsSettledClause}
use Rattle.cdcl.specs.Looks.{IsForced}
use Rattle.cdcl.specs.State.{IsSound}
use Rattle.cdcl.specs.Watching.{IsWatchListed, IsWatching, IsBase, AreLists}
use Rattle.cdcl.specs.Looking.{IsEnqueued, IsSameBeside, IsWatchful, CanWatch, IsPairFor}
use Rattle.search_trail.proofs.Works.{At-same, At-contains}
use Rattle.search_trail.proofs.Places.{At-push_old, At-push_new, apart_by_places, consistent}
use Rattle.cdcl.proofs.States.{held_push, literals_count}
use Rattle.cdcl.proofs.Watches.{watch_new, watch_learnt}
use Rattle.cdcl.proofs.WatchState.{watching_more, watching_put}

pub learnt_watchful : (s s' : Solver) (v : Vec Clause Global) (lits : List Lit) (a : Lit) → IsWatchful s
    → ((x : ℕ) → Contains s.level_starts.items x → IsSettledClause (take x (held s.trail.items)) lits) → literals v.items ≡ literals s.clauses.items ++ lits ∷ []
    → IsSameBeside (record s { clauses = v }) s' → IsEnqueued s.trail.items a s'.trail.items → IsSound s' → IsWatchful s'
learnt_watchful s s' v lits a w settled more same put sound =
    let db = literals s.clauses.items ++ lits ∷ [] in
    let R = IsWatchListed s.lists.items in
    let t : held s'.trail.items ≡ held s.trail.items ++ a ∷ [] =
    ap held put.2 ∙ held_push s.trail.items put.0 ∙ ap (λ (x : Lit). held s.trail.items ++ x ∷ []) put.1 in
    let watching : IsWatching R s.permanent db (held s.trail.items ++ a ∷ []) s.level_starts.items s.head s.pairs.items =
    watching_put R db (held s.trail.items) s.level_starts.items s.head s.pairs.items a (watching_more R (literals s.clauses.items) (held s.trail.items) s.level_starts.items s.head s.pairs.items lits settled w.watching) in
    record {
      sound = sound;
      watching = subst (λ (n : ℕ). IsWatching (IsWatchListed s'.lists.items) n (literals s'.clauses.items) (held s'.trail.items) s'.level_starts.items s'.head s'.pairs.items) (sym same.formula.permanent)
          (subst (λ (x : Vec (List ℕ) Global). IsWatching (IsWatchListed x.items) s.permanent (literals s'.clauses.items) (held s'.trail.items) s'.level_starts.items s'.head s'.pairs.items) (sym same.lists)
          (subst (λ (x : Vec Clause Global). IsWatching R s.permanent (literals x.items) (held s'.trail.items) s'.level_starts.items s'.head s'.pairs.items) (sym same.formula.clauses)
          (subst (λ (x : List (List Lit)). IsWatching R s.permanent x (held s'.trail.items) s'.level_starts.items s'.head s'.pairs.items) (sym more)
          (subst (λ (x : Vec ℕ Global). IsWatching R s.permanent db (held s'.trail.items) x.items s'.head s'.pairs.items) (sym same.level_starts)
          (subst (λ (h : ℕ). IsWatching R s.permanent db (held s'.trail.items) s.level_starts.items h s'.pairs.items) (sym same.head)
          (subst (λ (x : Vec Pair Global). IsWatching R s.permanent db (held s'.trail.items) s.level_starts.items s.head x.items) (sym same.pairs)
          (subst (λ (xs : List Lit). IsWatching R s.permanent db xs s.level_starts.items s.head s.pairs.items) (sym t) watching)))))));
      lists = subst (λ (x : Vec (List ℕ) Global). AreLists x.items (length s'.places.items) (length s'.pairs.items)) (sym same.lists)
          (subst (λ (x : Vec Pair Global). AreLists s.lists.items (length s'.places.items) (length x.items)) (sym same.pairs)
          (subst (λ (n : ℕ). AreLists s.lists.items n (length s.pairs.items)) (sym same.formula.len) w.lists));
    }

-- the learnt clause is the next that has no pair
learnt_at : (s s' : Solver) (v : Vec Clause Global) (lits : List Lit) → length s.pairs.items ≡ length s.clauses.items
    → literals v.items ≡ literals s.clauses.items ++ lits ∷ [] → IsSameBeside (record s { clauses = v }) s' → At (literals s'.clauses.items) (length s'.pairs.items) lits
learnt_at s s' v lits all more same =
    let n = literals_count s.clauses.items in
    let k : length (literals s.clauses.items) ≡ length s'.pairs.items = n ∙ sym all ∙ ap (λ (x : Vec Pair Global). length x.items) (sym same.pairs) in
    subst (λ (x : Vec Clause Global). At (literals x.items) (length s'.pairs.items) lits) (sym same.formula.clauses)
    (subst (λ (d : List (List Lit)). At d (length s'.pairs.items) lits) (sym more)
    (subst (λ (i : ℕ). At (literals s.clauses.items ++ lits ∷ []) i lits) k (At-push_new (literals s.clauses.items) lits)))

at_put : (s s' : Solver) (a : Lit) → IsEnqueued s.trail.items a s'.trail.items → At (held s'.trail.items) (length (held s.trail.items)) a
at_put s s' a put =
    let t : held s'.trail.items ≡ held s.trail.items ++ a ∷ [] =
    ap held put.2 ∙ held_push s.trail.items put.0 ∙ ap (λ (x : Lit). held s.trail.items ++ x ∷ []) put.1 in
    subst (λ (xs : List Lit). At xs (length (held s.trail.items)) a) (sym t) (At-push_new (held s.trail.items) a)

-- where no level is left, the literal that it forces is true below all levels
pub learnt_base : (s s' : Solver) (v : Vec Clause Global) (lits : List Lit) (a : Lit) (end : ℕ) → length s.pairs.items ≡ length s.clauses.items
    → literals v.items ≡ literals s.clauses.items ++ lits ∷ [] → IsSameBeside (record s { clauses = v }) s' → IsEnqueued s.trail.items a s'.trail.items
    → Contains lits a → ((x : ℕ) → Contains s.level_starts.items x → x < end) → end ≡ 0 → CanWatch s' (IsBase (held s'.trail.items) s'.level_starts.items) a a
learnt_base s s' v lits a end all more same put inside below none_left = (
  lits,
  learnt_at s s' v lits all more same,
  inside,
  inside,
  (
    length (held s.trail.items),
    a,
    inside,
    at_put s s' a put,
    λ x i. let r = below x (subst (λ (y : Vec ℕ Global). Contains y.items x) same.level_starts i) in absurd (omega (arith, r, none_left)),
  ),
)

-- the literal that it forces, and the deepest of the others
pub learnt_pair : (s s' : Solver) (v : Vec Clause Global) (lits : List Lit) (a x : Lit) (end : ℕ) → length s.pairs.items ≡ length s.clauses.items
    → literals v.items ≡ literals s.clauses.items ++ lits ∷ [] → IsSameBeside (record s { clauses = v }) s' → IsEnqueued s.trail.items a s'.trail.items → IsSound s'
    → IsForced (held s.trail.items) lits a → ((y : ℕ) → Contains s.level_starts.items y → y < end)
    → ((k : ℕ) → end ≡ k + 1 → (m : Lit) × Contains lits m × At (held s.trail.items) k (opposite m)) → (end ≡ 0 → ⊥)
    → At (held s'.trail.items) (end - 1) x → CanWatch s' (IsPairFor s' a (opposite x)) a (opposite x)
learnt_pair s s' v lits a x zero all more same put sound forced below last some at = absurd (some refl)
learnt_pair s s' v lits a x (suc k) all more same put sound forced below last some at =
    let t = held s.trail.items in
    let t' : held s'.trail.items ≡ t ++ a ∷ [] =
    ap held put.2 ∙ held_push s.trail.items put.0 ∙ ap (λ (y : Lit). t ++ y ∷ []) put.1 in
    let m = last k (omega arith) in
    let place : suc k - 1 ≡ k = omega arith in
    let old : At (held s'.trail.items) k (opposite m.0) = subst (λ (xs : List Lit). At xs k (opposite m.0)) (sym t') (At-push_old t (a ∷ []) k (opposite m.0) m.2) in
    let here : At (held s'.trail.items) k x = subst (λ (i : ℕ). At (held s'.trail.items) i x) place at in
    let is : m.0 ≡ opposite x = sym (opposite-opposite m.0) ∙ ap opposite (At-same (held s'.trail.items) k (opposite m.0) x old here) in
    let inside : Contains lits (opposite x) = subst (λ (y : Lit). Contains lits y) is m.1 in
    let new = at_put s s' a put in
    let apart = apart_by_places (held s'.trail.items) s'.places.items sound.places_are in
    let free : Denied (held s'.trail.items) a → ⊥ = consistent (held s'.trail.items) s'.places.items sound.places_are a (At-contains (held s'.trail.items) (length t) a new) in (
      lits,
      learnt_at s s' v lits all more same,
      forced.inside,
      inside,
      (
        λ e. let q : length t ≡ k = apart (length t) k a x new here (ap (λ (y : Lit). y.var) e) in omega (arith, q, m.2.0),
        watch_new (held s'.trail.items) s'.level_starts.items s'.head lits a free,
        watch_learnt (held s'.trail.items) s'.level_starts.items s'.head k lits (opposite x) a forced.inside (At-contains (held s'.trail.items) (length t) a new)
            (λ p b. apart p k (opposite (opposite x)) x b here refl)
            (λ y i. let r = below y (subst (λ (z : Vec ℕ Global). Contains z.items y) same.level_starts i) in omega (arith, r)),
      ),
    )
