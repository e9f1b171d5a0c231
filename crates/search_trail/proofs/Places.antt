-- The places of variables, as literals come and go.
use Rattle.cnf_form.specs.Literals.{HasVar}
use Rattle.search_trail.specs.Trail.{At, IsConsistent, IsUnassigned, AreTrailPlaces, AllInRange, IsApart}
use Rattle.std.proofs.Common.{set, get_or-set_other, get_or-set_same, ◌≡◌, ℕ, zero, suc, ◌<◌, ◌≤◌, ◌+◌, Bool, true, false, List, [], ◌∷◌, ◌++◌, ◌⊎◌, map, inl, inr, refl, sym, ◌∙◌, ap, subst, arith, length, get_or, Option, Some, None}
use Rattle.std.proofs.lemmas.List.{length-map}
use Rattle.std.proofs.lemmas.Grind.{common_steps}
use Rattle.cnf_form.specs.declared.formula.Lit.{Lit}
use Rattle.cnf_form.specs.Literals.{opposite, negated}
use Rattle.cnf_form.proofs.Law.{none_of}
use Rattle.search_trail.proofs.Works.{At-same, At-get_or}
use Rattle.std.specs.List.{IsDistinct}
use Rattle.std.proofs.Math.Dec.{eqb}
use Rattle.std.proofs.lemmas.Bool.{eqb-true, cases_eq}
use Rattle.std.proofs.lemmas.Map.Steps.{length-le_from_distinct_below}
use Rattle.std.proofs.lemmas.Map.Views.{Contains-from_any}
use Rattle.std.proofs.lemmas.Option.{same_Some}
use Rattle.cqa_value.proofs.Words.{Contains-from_map}

pub At-push_cases : {X : Type 0} (xs : List X) (x : X) (k : ℕ) (y : X) → At (xs ++ x ∷ []) k y → At xs k y ⊎ ((k ≡ length xs) × (x ≡ y))
At-push_cases [] x zero y a = inr (refl, a.1)
At-push_cases [] x (suc k) y a = absurd (omega (arith, a.0))
At-push_cases (z ∷ zs) x zero y a = inl (omega arith, a.1)
At-push_cases (z ∷ zs) x (suc k) y a = elim (At-push_cases zs x k y (omega (arith, a.0), a.1)) [
  | inl q ↦ inl (omega (arith, q.0), q.1)
  | inr q ↦ inr (omega (arith, q.0), q.1)
]

pub At-push_old : {X : Type 0} (xs ys : List X) (k : ℕ) (y : X) → At xs k y → At (xs ++ ys) k y
At-push_old [] ys k y a = absurd (omega (arith, a.0))
At-push_old (x ∷ xs) ys zero y a = (omega arith, a.1)
At-push_old (x ∷ xs) ys (suc k) y a = let r = At-push_old xs ys k y (omega (arith, a.0), a.1) in (omega (arith, r.0), r.1)

pub At-push_new : {X : Type 0} (xs : List X) (x : X) → At (xs ++ x ∷ []) (length xs) x
At-push_new [] x = (omega arith, refl)
At-push_new (y ∷ ys) x = let r = At-push_new ys x in (omega (arith, r.0), r.1)

pub some_none : (n : ℕ) (o : Option ℕ) → o ≡ None → o ≡ Some n → ⊥
some_none n o a b = cc

pub places_put : (t : List Lit) (places : List (Option ℕ)) (l : Lit) → AreTrailPlaces t places → l.var < length places → IsUnassigned t l.var
    → AreTrailPlaces (t ++ l ∷ []) (set places l.var (Some (length t)))
places_put t places l are range free = record {
  right = λ v p is. elim (cases_eq v l.var) [
    | inl e ↦
        let q : Some (length t) ≡ Some p = sym (get_or-set_same places l.var (Some (length t)) None range) ∙ subst (λ (n : ℕ). get_or (set places l.var (Some (length t))) n None ≡ Some p) e is in
        let len : length t ≡ p = same_Some _ _ q in
        let new = At-push_new t l in
        (omega (arith, len, new.0), λ m a. ap (λ (x : Lit). x.var) (At-same (t ++ l ∷ []) p m l a (subst (λ (n : ℕ). At (t ++ l ∷ []) n l) len new)) ∙ sym e)
    | inr n ↦
        let r = are.right v p (sym (get_or-set_other places l.var v (Some (length t)) None n) ∙ is) in
        let new = At-push_new t l in
        (omega (arith, r.0, new.0), λ m a. elim (At-push_cases t l p m a) [ inl b ↦ r.1 m b | inr b ↦ absurd (omega (arith, b.0, r.0)) ])
  ];
  every = λ p m a. elim (At-push_cases t l p m a) [
    | inl b ↦ elim (cases_eq m.var l.var) [
      | inl e ↦ absurd (free (m, (p, b.0, b.1), e))
      | inr n ↦ get_or-set_other places l.var m.var (Some (length t)) None n ∙ are.every p m b
    ]
    | inr b ↦ subst (λ (x : Lit). get_or (set places l.var (Some (length t))) x.var None ≡ Some p) b.1
        (subst (λ (k : ℕ). get_or (set places l.var (Some (length t))) l.var None ≡ Some k) (sym b.0) (get_or-set_same places l.var (Some (length t)) None range))
  ];
}

pub places_off : (t : List Lit) (places : List (Option ℕ)) (l : Lit) → AreTrailPlaces (t ++ l ∷ []) places → l.var < length places
    → AreTrailPlaces t (set places l.var None)
places_off t places l are range = record {
  right = λ v p is. elim (cases_eq v l.var) [
    | inl e ↦ absurd (some_none p (get_or (set places l.var None) v None)
        (subst (λ (n : ℕ). get_or (set places l.var None) n None ≡ None) (sym e) (get_or-set_same places l.var None None range)) is)
    | inr n ↦
        let r = are.right v p (sym (get_or-set_other places l.var v None None n) ∙ is) in (
          elim (cases_eq p (length t)) [
            | inl e ↦ absurd (n (sym (r.1 l (subst (λ (k : ℕ). At (t ++ l ∷ []) k l) (sym e) (At-push_new t l)))))
            | inr ne ↦ let len = length_one t l in omega (arith, r.0, len)
          ],
          λ m a. r.1 m (At-push_old t (l ∷ []) p m a),
        )
  ];
  every = λ p m a.
      let q : get_or places m.var None ≡ Some p = are.every p m (At-push_old t (l ∷ []) p m a) in
      elim (cases_eq m.var l.var) [
        | inl e ↦ let s : get_or places l.var None ≡ Some (length t) = are.every (length t) l (At-push_new t l) in
            let k : p ≡ length t = same_Some _ _ (sym q ∙ subst (λ (n : ℕ). get_or places n None ≡ Some (length t)) (sym e) s) in
            absurd (omega (arith, a.0, k))
        | inr n ↦ get_or-set_other places l.var m.var None None n ∙ q
      ];
}
  where
    length_one : (xs : List Lit) (x : Lit) → length (xs ++ x ∷ []) ≡ length xs + 1
    length_one xs x = grind (arith, common_steps)

-- a literal and its opposite have one place
pub consistent : (t : List Lit) (places : List (Option ℕ)) → AreTrailPlaces t places → IsConsistent t
consistent t places are l i d =
    let p : get_or places l.var None ≡ Some i.0 = are.every i.0 l (i.1, i.2) in
    let q : get_or places l.var None ≡ Some d.0 = are.every d.0 (opposite l) (d.1, d.2) in
    let e : i.0 ≡ d.0 = same_Some _ _ (sym p ∙ q) in
    apart l (At-same t d.0 l (opposite l) (subst (λ (k : ℕ). At t k l) e (i.1, i.2)) (d.1, d.2))
  where
    clash : (b : Bool) → b ≡ negated b → ⊥
    clash true e = cc
    clash false e = cc

    apart : (x : Lit) → x ≡ opposite x → ⊥
    apart x e = clash x.positive (ap (λ (y : Lit). y.positive) e)

pub apart_by_places : (t : List Lit) (places : List (Option ℕ)) → AreTrailPlaces t places → IsApart t
apart_by_places t places are p q l m a b e =
    let x : get_or places l.var None ≡ Some p = are.every p l a in
    let y : get_or places m.var None ≡ Some q = are.every q m b in
    same_Some p q (sym x ∙ subst (λ (n : ℕ). get_or places n None ≡ Some q) (sym e) y)

distinct_vars : (t : List Lit) → IsApart t → IsDistinct eqb (map (λ (l : Lit). l.var) t)
unfolding IsDistinct
distinct_vars [] a = tt
distinct_vars (l ∷ t) a = (
  none_of l.var (map (λ (m : Lit). m.var) t) (λ y i e.
      let q = Contains-from_map (λ (m : Lit). m.var) t y i in
      let z : 0 ≡ suc q.1.0 = a 0 (suc q.1.0) l q.0 (omega arith, refl) (omega (arith, q.1.1), q.1.2) (e ∙ sym q.2) in
      omega (arith, z)),
  distinct_vars t (λ p q k m x y e. let z : suc p ≡ suc q = a (suc p) (suc q) k m (omega (arith, x.0), x.1) (omega (arith, y.0), y.1) e in omega (arith, z)),
)

-- a trail is no longer than the variables are many
pub trail_fits : (t : List Lit) (places : List (Option ℕ)) → AreTrailPlaces t places → AllInRange t (length places) → length t ≤ length places
trail_fits t places are range =
    let vars = map (λ (l : Lit). l.var) t in
    let n = length-map t (λ (l : Lit). l.var) in
    let bound : length vars ≤ length places = length-le_from_distinct_below vars (length places) (distinct_vars t (apart_by_places t places are)) (λ q h.
    let i = Contains-from_any eqb-true q vars h in
    let x = Contains-from_map (λ (l : Lit). l.var) t q i in
    let r = range x.0 x.1 in omega (arith, r, x.2)) in
    omega (arith, bound, n)

pub has_var : (t : List Lit) (places : List (Option ℕ)) (v p : ℕ) → AreTrailPlaces t places → get_or places v None ≡ Some p → HasVar t v
has_var t places v p are is =
    let r = are.right v p is in
    let none : Lit = record { var = 0; positive = false } in
    let a = At-get_or t p none r.0 in
    (get_or t p none, (p, a.0, a.1), r.1 (get_or t p none) a)
