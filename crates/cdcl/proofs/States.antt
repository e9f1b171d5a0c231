-- How a solver's state changes.
use Rattle.search_trail.specs.Trail.{At, held, AreTrailPlaces, AllInRange, AllLow}
use Rattle.std.proofs.Common.{take, ◌≡◌, ℕ, zero, suc, ◌<◌, ◌≤◌, ◌+◌, ◌-◌, List, [], ◌∷◌, ◌++◌, ◌⊎◌, inl, inr, refl, sym, ◌∙◌, ap, subst, arith, length, get_or, Option, Some, None}
use Rattle.std.specs.Prelude.{Contains}
use Rattle.std.proofs.lemmas.List.{length-map, map-append, take-append-le, length-take, take_all, take-take, length_push}
use Rattle.std.proofs.lemmas.List.Elements.{Contains-push_cases, Contains-append_left, Contains-push}
use Rattle.cnf_form.specs.declared.formula.Lit.{Lit}
use Rattle.cnf_form.specs.declared.formula.Clause.{Clause}
use Rattle.cnf_form.specs.Literals.{OthersDenied, literals}
use Rattle.search_trail.specs.declared.trail.Entry.{Entry}
use Rattle.search_trail.specs.Analysis.{IsForcedBy}
use Rattle.cdcl.specs.State.{IsSearchState, last_start}
use Rattle.search_trail.proofs.Works.{At-get_or, At-same, At-take, At-contains}
use Rattle.search_trail.proofs.Places.{At-push_cases, At-push_old, At-push_new, some_none}

pub held_take : (s : ℕ) (trail : List Entry) → held (take s trail) ≡ take s (held trail)
held_take zero trail = refl
held_take (suc s) [] = refl
held_take (suc s) (e ∷ trail) = ap (λ (ys : List Lit). e.lit ∷ ys) (held_take s trail)

pub held_push : (trail : List Entry) (e : Entry) → held (trail ++ e ∷ []) ≡ held trail ++ e.lit ∷ []
held_push trail e = map-append (λ (x : Entry). x.lit) trail (e ∷ [])

pub length_held : (trail : List Entry) → length (held trail) ≡ length trail
length_held trail = length-map trail (λ (x : Entry). x.lit)

-- what stands before a place stays when more is put on
pub take_put : (p : ℕ) (trail : List Entry) (e : Entry) → p ≤ length trail → take p (held (trail ++ e ∷ [])) ≡ take p (held trail)
take_put p trail e h =
    let l : p ≤ length (held trail) = let k = length_held trail in omega (arith, k) in
    ap (λ (xs : List Lit). take p xs) (held_push trail e) ∙ take-append-le p (held trail) (e.lit ∷ []) l

pub take_cut : (p s : ℕ) (trail : List Entry) → p ≤ s → take p (held (take s trail)) ≡ take p (held trail)
take_cut p s trail h = ap (λ (xs : List Lit). take p xs) (held_take s trail) ∙ take-take p s (held trail) h

forced_by_same : (db : List (List Lit)) (t u : List Lit) (p : ℕ) (e : Entry) → take p t ≡ take p u → IsForcedBy db t p e → IsForcedBy db u p e
forced_by_same db t u p e same f = record {
  reason = f.reason;
  clause = f.clause;
  is = f.is;
  there = f.there;
  inside = f.inside;
  others = subst (λ (xs : List Lit). OthersDenied xs f.clause e.lit) same f.others;
}

contains_cut : (s : ℕ) (trail : List Entry) (l : Lit) → Contains (held (take s trail)) l → Contains (held trail) l
contains_cut s trail l i =
    let j : Contains (take s (held trail)) l = subst (λ (xs : List Lit). Contains xs l) (held_take s trail) i in
    let a = At-take s (held trail) j.0 l (j.1, j.2) in At-contains (held trail) j.0 l a.1

-- the last level's start is the highest
pub below_last : (level_starts : List ℕ) (s x : ℕ) → ((i j a b : ℕ) → i < j → At (level_starts ++ s ∷ []) i a → At (level_starts ++ s ∷ []) j b → a < b)
    → Contains level_starts x → x < s
below_last level_starts s x rising i = rising i.0 (length level_starts) x s i.1 (At-push_old level_starts (s ∷ []) i.0 x (i.1, i.2)) (At-push_new level_starts s)

-- the last level is left
pub state_back : (db : List (List Lit)) (trail : List Entry) (places places' : List (Option ℕ)) (level_starts : List ℕ) (s : ℕ)
    → IsSearchState db trail places (level_starts ++ s ∷ []) → AreTrailPlaces (held (take s trail)) places' → length places' ≡ length places
    → IsSearchState db (take s trail) places' level_starts
state_back db trail places places' level_starts s st are len =
    let lower : (x : ℕ) → Contains level_starts x → x < s = λ x i. below_last level_starts s x st.rising i in
    record {
      places_are = are;
      held_in = λ l i. let r = st.held_in l (contains_cut s trail l i) in omega (arith, r, len);
      held_low = λ l i. st.held_low l (contains_cut s trail l i);
      db_low = st.db_low;
      db_in = λ c i l j. let r = st.db_in c i l j in omega (arith, r, len);
      rising = λ i j a b h x y. st.rising i j a b h (At-push_old level_starts (s ∷ []) i a x) (At-push_old level_starts (s ∷ []) j b y);
      under = λ x i. let r = lower x i in let q = length-take s trail in let w = st.under s (Contains-push level_starts s) in omega (arith, q);
      forced = λ p n e a.
          let b = At-take s trail p e a in
          st.forced p (λ i. elim (Contains-push_cases level_starts s p i) [ inl j ↦ n j | inr q ↦ absurd (omega (arith, q, b.0)) ]) e b.1;
      reasons = λ p e r a is.
          let b = At-take s trail p e a in
          forced_by_same db (held trail) (held (take s trail)) p e (sym (take_cut p s trail (omega (arith, b.0)))) (st.reasons p e r b.1 is);
    }

-- a forced literal is put on the trail
pub state_forced : (db : List (List Lit)) (trail : List Entry) (places places' : List (Option ℕ)) (level_starts : List ℕ) (l : Lit) (r : ℕ) (c : List Lit) (e : Entry)
    → e.lit ≡ l → e.reason ≡ Some r → IsSearchState db trail places level_starts → At db r c → Contains c l → OthersDenied (held trail) c l → l.var < length places
    → AreTrailPlaces (held (trail ++ e ∷ [])) places' → length places' ≡ length places → IsSearchState db (trail ++ e ∷ []) places' level_starts
state_forced db trail places places' level_starts l r c e el er st at inside others range are len = record {
  places_are = are;
  held_in = λ m i. elim (Contains-push_cases (held trail) e.lit m (subst (λ (xs : List Lit). Contains xs m) (held_push trail e) i)) [
    | inl j ↦ let q = st.held_in m j in omega (arith, q, len)
    | inr q ↦ let v : m.var ≡ l.var = ap (λ (x : Lit). x.var) (sym q ∙ el) in omega (arith, v, range, len)
  ];
  held_low = λ m i. elim (Contains-push_cases (held trail) e.lit m (subst (λ (xs : List Lit). Contains xs m) (held_push trail e) i)) [
    | inl j ↦ st.held_low m j
    | inr q ↦ let v : m.var ≡ l.var = ap (λ (x : Lit). x.var) (sym q ∙ el) in
        let k = st.db_low c (At-contains db r c at) l inside in omega (arith, v, k)
  ];
  db_low = st.db_low;
  db_in = λ d i m j. let q = st.db_in d i m j in omega (arith, q, len);
  rising = st.rising;
  under = λ s i. let q = st.under s i in let w = length_push trail e in omega (arith, q, w);
  forced = λ p n x a. elim (At-push_cases trail e p x a) [
    | inl b ↦ st.forced p n x b
    | inr b ↦ λ free. some_none r x.reason free (ap (λ (y : Entry). y.reason) (sym b.1) ∙ er)
  ];
  reasons = λ p x k a is. elim (At-push_cases trail e p x a) [
    | inl b ↦ forced_by_same db (held trail) (held (trail ++ e ∷ [])) p x (sym (take_put p trail e (omega (arith, b.0)))) (st.reasons p x k b is)
    | inr b ↦ subst (λ (y : Entry). IsForcedBy db (held (trail ++ e ∷ [])) p y) b.1 (last p b.0)
  ];
}
  where
    whole : (p : ℕ) → p ≡ length trail → take p (held (trail ++ e ∷ [])) ≡ held trail
    whole p h = take_put p trail e (omega (arith, h)) ∙ take_all p (held trail) (let k = length_held trail in omega (arith, k, h))

    last : (p : ℕ) → p ≡ length trail → IsForcedBy db (held (trail ++ e ∷ [])) p e
    last p h = record {
      reason = r;
      clause = c;
      is = er;
      there = at;
      inside = subst (λ (y : Lit). Contains c y) (sym el) inside;
      others = subst (λ (xs : List Lit). OthersDenied xs c e.lit) (sym (whole p h)) (subst (λ (y : Lit). OthersDenied (held trail) c y) (sym el) others);
    }

-- a decision starts a level
pub state_decided : (db : List (List Lit)) (trail : List Entry) (places places' : List (Option ℕ)) (level_starts : List ℕ) (e : Entry)
    → IsSearchState db trail places level_starts → e.reason ≡ None → 1 ≤ e.lit.var → e.lit.var < length places
    → AreTrailPlaces (held (trail ++ e ∷ [])) places' → length places' ≡ length places → IsSearchState db (trail ++ e ∷ []) places' (level_starts ++ length trail ∷ [])
state_decided db trail places places' level_starts e st free low range are len = record {
  places_are = are;
  held_in = λ m i. elim (Contains-push_cases (held trail) e.lit m (subst (λ (xs : List Lit). Contains xs m) (held_push trail e) i)) [
    | inl j ↦ let q = st.held_in m j in omega (arith, q, len)
    | inr q ↦ let v : e.lit.var ≡ m.var = ap (λ (x : Lit). x.var) q in omega (arith, v, range, len)
  ];
  held_low = λ m i. elim (Contains-push_cases (held trail) e.lit m (subst (λ (xs : List Lit). Contains xs m) (held_push trail e) i)) [
    | inl j ↦ st.held_low m j
    | inr q ↦ let v : e.lit.var ≡ m.var = ap (λ (x : Lit). x.var) q in omega (arith, v, low)
  ];
  db_low = st.db_low;
  db_in = λ d i m j. let q = st.db_in d i m j in omega (arith, q, len);
  rising = λ i j a b h x y. elim (At-push_cases level_starts (length trail) j b y) [
    | inl v ↦ elim (At-push_cases level_starts (length trail) i a x) [
      | inl u ↦ st.rising i j a b h u v
      | inr u ↦ absurd (omega (arith, u.0, v.0, h))
    ]
    | inr v ↦ elim (At-push_cases level_starts (length trail) i a x) [
      | inl u ↦ let q = st.under a (i, u.0, u.1) in omega (arith, q, v.1)
      | inr u ↦ absurd (omega (arith, u.0, v.0, h))
    ]
  ];
  under = λ s i. let w = length_push trail e in elim (Contains-push_cases level_starts (length trail) s i) [
    | inl j ↦ let q = st.under s j in omega (arith, q, w)
    | inr q ↦ omega (arith, q, w)
  ];
  forced = λ p n x a. elim (At-push_cases trail e p x a) [
    | inl b ↦ st.forced p (λ i. n (Contains-append_left level_starts (length trail ∷ []) p i)) x b
    | inr b ↦ absurd (n (subst (λ (k : ℕ). Contains (level_starts ++ length trail ∷ []) k) (sym b.0) (Contains-push level_starts (length trail))))
  ];
  reasons = λ p x r a is. elim (At-push_cases trail e p x a) [
    | inl b ↦ forced_by_same db (held trail) (held (trail ++ e ∷ [])) p x (sym (take_put p trail e (omega (arith, b.0)))) (st.reasons p x r b is)
    | inr b ↦ absurd (some_none r x.reason (ap (λ (y : Entry). y.reason) (sym b.1) ∙ free) is)
  ];
}

more_forced : (db : List (List Lit)) (c : List Lit) (t : List Lit) (p : ℕ) (e : Entry) → IsForcedBy db t p e → IsForcedBy (db ++ c ∷ []) t p e
more_forced db c t p e f = record {
  reason = f.reason;
  clause = f.clause;
  is = f.is;
  there = At-push_old db (c ∷ []) f.reason f.clause f.there;
  inside = f.inside;
  others = f.others;
}

-- a clause is learnt
pub state_learnt : (db : List (List Lit)) (trail : List Entry) (places : List (Option ℕ)) (level_starts : List ℕ) (c : List Lit)
    → IsSearchState db trail places level_starts → AllInRange c (length places) → AllLow c
    → IsSearchState (db ++ c ∷ []) trail places level_starts
state_learnt db trail places level_starts c st range low = record {
  places_are = st.places_are;
  held_in = st.held_in;
  held_low = st.held_low;
  db_low = λ d i. elim (Contains-push_cases db c d i) [ inl j ↦ st.db_low d j | inr e ↦ subst AllLow e low ];
  db_in = λ d i. elim (Contains-push_cases db c d i) [ inl j ↦ st.db_in d j | inr e ↦ subst (λ (x : List Lit). AllInRange x (length places)) e range ];
  rising = st.rising;
  under = st.under;
  forced = st.forced;
  reasons = λ p e r a is. more_forced db c (held trail) p e (st.reasons p e r a is);
}

-- the clause at an index
pub db_at : (cs : List Clause) (k : ℕ) → k < length cs → (c : List Lit) × At (literals cs) k c
db_at [] k h = absurd (omega arith)
db_at (c ∷ cs) zero h = (c.lits, (omega arith, refl))
db_at (c ∷ cs) (suc k) h = let r = db_at cs k (omega arith) in (r.0, (omega (arith, r.1.0), r.1.1))

pub literals_count : (cs : List Clause) → length (literals cs) ≡ length cs
literals_count cs = length-map cs (λ (c : Clause). c.lits)

pub prefix_more : {X : Type 0} (new old first : List X) (s : ℕ) → new ≡ take s old → (k : ℕ) × (old ≡ take k first) → (k : ℕ) × (new ≡ take k first)
prefix_more {X} new old first s e p = elim (cases s p.0) [
  | inl h ↦ (s, e ∙ ap (λ (xs : List X). take s xs) p.1 ∙ take-take s p.0 first h)
  | inr h ↦ (p.0, e ∙ take_all s old (shorter h) ∙ p.1)
]
  where
    cases : (a b : ℕ) → (a ≤ b) ⊎ (b ≤ a)
    cases a b = grind arith

    shorter : p.0 ≤ s → length old ≤ s
    shorter h = let l : length old ≡ length (take p.0 first) = ap (λ (xs : List X). length xs) p.1 in let q = length-take p.0 first in omega (arith, l, q, h)

pub last_is : (xs ys : List ℕ) (s n x : ℕ) → xs ≡ ys ++ s ∷ [] → n ≡ length xs → x ≡ get_or xs (n - 1) x → x ≡ s
last_is xs ys s n x e len at =
    let l : length xs ≡ length ys + 1 = ap (λ (zs : List ℕ). length zs) e ∙ length_push ys s in
    let i : n - 1 ≡ length ys = omega (arith, l, len) in
    let a : get_or (ys ++ s ∷ []) (length ys) x ≡ x =
    subst (λ (k : ℕ). get_or (ys ++ s ∷ []) k x ≡ x) i (subst (λ (zs : List ℕ). get_or zs (n - 1) x ≡ x) e (sym at)) in
    let new = At-push_new ys s in
    At-same (ys ++ s ∷ []) (length ys) x s (new.0, a) new

pub At-last : (level_starts : List ℕ) → 0 < length level_starts → At level_starts (length level_starts - 1) (last_start level_starts)
At-last level_starts some = At-get_or level_starts (length level_starts - 1) 0 (omega (arith, some))

-- no level starts behind the last one's start
pub past_last : (level_starts : List ℕ) (p : ℕ) → ((i j a b : ℕ) → i < j → At level_starts i a → At level_starts j b → a < b)
    → last_start level_starts < p → Contains level_starts p → ⊥
past_last level_starts p rising h i = elim (cases i.0 (length level_starts - 1)) [
  | inl below ↦ let r = rising i.0 (length level_starts - 1) p (last_start level_starts) below (i.1, i.2) (At-last level_starts (omega (arith, i.1))) in omega (arith, r, h)
  | inr above ↦
      let k : i.0 ≡ length level_starts - 1 = omega (arith, above, i.1) in
      let e : p ≡ last_start level_starts = At-same level_starts (length level_starts - 1) p (last_start level_starts)
      (subst (λ (n : ℕ). At level_starts n p) k (i.1, i.2)) (At-last level_starts (omega (arith, i.1))) in
      omega (arith, e, h)
]
  where
    cases : (a b : ℕ) → (a < b) ⊎ (b ≤ a)
    cases a b = grind arith

pub last_in : (level_starts : List ℕ) (n : ℕ) → ((s : ℕ) → Contains level_starts s → s < n) → last_start level_starts ≤ n
last_in [] n under = omega arith
last_in (x ∷ xs) n under =
    let a = At-last (x ∷ xs) (omega arith) in
    let r = under (last_start (x ∷ xs)) (length (x ∷ xs) - 1, a.0, a.1) in
    omega (arith, r)

pub last_within : (db : List (List Lit)) (trail : List Entry) (places : List (Option ℕ)) (level_starts : List ℕ)
    → IsSearchState db trail places level_starts → 0 < length level_starts → last_start level_starts < length trail
last_within db trail places level_starts st some =
    let a = At-last level_starts some in st.under (last_start level_starts) (length level_starts - 1, a.0, a.1)
