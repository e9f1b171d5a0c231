-- Why the hints of a learnt clause pass.
use Rattle.cnf_form.specs.Literals.{HasVar}
use Rattle.search_trail.specs.Trail.{At, IsConsistent, held, EndIs, AfterIs}
use Rattle.std.proofs.Common.{take, ◌≡◌, ℕ, zero, suc, ◌<◌, ◌≤◌, ◌+◌, Bool, true, false, ℤ, pos, List, [], ◌∷◌, ◌++◌, ◌⊎◌, map, inl, inr, refl, sym, ◌∙◌, ap, subst, arith, length, get_or}
use Rattle.std.specs.Prelude.{Contains}
use Rattle.std.proofs.lemmas.List.Elements.{Contains-push_cases, Contains-append_left, Contains-push}
use Rattle.std.proofs.lemmas.List.{length-map, reverse-append, take_all}
use Rattle.std.proofs.Common.{reverse, max}
use Rattle.cnf_form.specs.declared.formula.Clause.{Clause}
use Rattle.cnf_form.specs.Literals.{literals}
use Rattle.cnf_form.specs.declared.formula.Lit.{Lit}
use Rattle.cnf_form.specs.Literals.{opposite, Denied, AllDenied, OthersDenied}
use Rattle.search_trail.specs.declared.trail.Entry.{Entry}
use Rattle.cnf_form.specs.Spent.{NoVarTwice}
use Rattle.search_trail.specs.Analysis.{Grow, AllSeen, Works}
use Rattle.search_trail.specs.Marks.{IsVarSeen}
use Rattle.std.proofs.Common.{set, get_or-set_other, get_or-set_same}
use Rattle.std.proofs.lemmas.Bool.{cases_eq}
use Rattle.cqa_value.proofs.Words.{mem-tail, mem-cases, mem-head, cases_next}

pub At-map : {X Y : Type 0} (f : X → Y) (xs : List X) (k : ℕ) (x : X) → At xs k x → At (map f xs) k (f x)
At-map f [] k x a = absurd (omega (arith, a.0))
At-map f (y ∷ ys) zero x a = (omega arith, ap f a.1)
At-map f (y ∷ ys) (suc k) x a =
    let r : At (map f ys) k (f x) = At-map f ys k x (omega (arith, a.0), a.1) in (omega (arith, r.0), r.1)

pub At-take : {X : Type 0} (n : ℕ) (xs : List X) (k : ℕ) (x : X) → At (take n xs) k x → (k < n) × At xs k x
At-take zero xs k x a = absurd (omega (arith, a.0))
At-take (suc n) [] k x a = absurd (omega (arith, a.0))
At-take (suc n) (y ∷ ys) zero x a = (omega arith, (omega arith, a.1))
At-take (suc n) (y ∷ ys) (suc k) x a = let r = At-take n ys k x (omega (arith, a.0), a.1) in (omega (arith, r.0), (omega (arith, r.1.0), r.1.1))

pub At-in_take : {X : Type 0} (n : ℕ) (xs : List X) (k : ℕ) (x : X) → k < n → At xs k x → At (take n xs) k x
At-in_take zero xs k x h a = absurd (omega arith)
At-in_take (suc n) [] k x h a = absurd (omega (arith, a.0))
At-in_take (suc n) (y ∷ ys) zero x h a = (omega arith, a.1)
At-in_take (suc n) (y ∷ ys) (suc k) x h a = let r = At-in_take n ys k x (omega arith) (omega (arith, a.0), a.1) in (omega (arith, r.0), r.1)

pub At-same : {X : Type 0} (xs : List X) (k : ℕ) (x y : X) → At xs k x → At xs k y → x ≡ y
At-same [] k x y a b = absurd (omega (arith, a.0))
At-same (z ∷ zs) zero x y a b = sym a.1 ∙ b.1
At-same (z ∷ zs) (suc k) x y a b = At-same zs k x y (omega (arith, a.0), a.1) (omega (arith, b.0), b.1)

pub At-contains : {X : Type 0} (xs : List X) (k : ℕ) (x : X) → At xs k x → Contains xs x
At-contains xs k x a = (k, a.0, a.1)

-- what is denied before a place, and marked, is denied by such a list
denied_by : (t : List Lit) (seen : List Bool) (place : ℕ) (have' : List Lit)
    → ((p : ℕ) (l : Lit) → p < place → At t p l → IsVarSeen seen l.var → Contains have' l)
    → (m : Lit) → IsVarSeen seen m.var → Denied (take place t) m → Denied have' m
denied_by t seen place have' high m s d =
    let a : (d.0 < place) × At t d.0 (opposite m) = At-take place t d.0 (opposite m) (d.1, d.2) in
    high d.0 (opposite m) a.0 a.1 s

pub works_first : (db : List (List Lit)) (t : List Lit) (seen : List Bool) (lits : List Lit) (h : ℤ) (i : ℕ) (c : List Lit)
    → h ≡ pos (i + 1) → At db i c → AllDenied t c → AllSeen seen c → Works db t seen lits (length t) (h ∷ [])
works_first db t seen lits h i c e a d all = record {
  chain = λ have' within low high. (
    i,
    e,
    c,
    a,
    inl (λ m j. denied_by t seen (length t) have' high m (all m j)
        (subst (λ (x : List Lit). Denied x m) (sym (take_all (length t) t (omega arith))) (d m j))),
  );
}

pub works_skip : (db : List (List Lit)) (t : List Lit) (seen : List Bool) (lits : List Lit) (place : ℕ) (hints : List ℤ) (x : Lit)
    → At t place x → (IsVarSeen seen x.var → ⊥) → Works db t seen lits (place + 1) hints → Works db t seen lits place hints
works_skip db t seen lits place hints x a unseen w = record {
  chain = λ have' within low high. w.chain have' within low (λ p l h b s. elim (cases_next p place h) [
    | inl lt ↦ high p l lt b s
    | inr e ↦ absurd (unseen (subst (λ (y : Lit). IsVarSeen seen y.var)
        (At-same t place l x (subst (λ (n : ℕ). At t n l) e b) a) s))
  ]);
}

-- a marked literal follows by its reason, whose variables are marked then
pub works_resolve : (db : List (List Lit)) (t : List Lit) (seen seen' : List Bool) (lits : List Lit) (place : ℕ) (hints : List ℤ)
    (x : Lit) (h : ℤ) (r : ℕ) (c : List Lit) → h ≡ pos (r + 1) → IsConsistent t → At t place x → At db r c → Contains c x → OthersDenied (take place t) c x
    → Grow seen seen' → AllSeen seen' c → Works db t seen lits (place + 1) hints → Works db t seen' lits place (h ∷ hints)
works_resolve db t seen seen' lits place hints x hint r c named k a b inside others grow all w = record {
  chain = λ have' within low high. (
    r,
    named,
    c,
    b,
    inr (
      x,
      record {
        inside = inside;
        free = λ d. k x (At-contains t place x a) (within (opposite x) d);
        others = λ m j n. denied_by t seen' place have' high m (all m j) (others m j n);
      },
      w.chain (x ∷ have')
          (λ l j. elim (mem-cases l x have' j) [ inl e ↦ subst (λ (y : Lit). Contains t y) e (At-contains t place x a) | inr q ↦ within l q ])
          (λ m j. mem-tail (opposite m) x have' (low m j))
          (λ p l h q s. elim (cases_next p place h) [
            | inl lt ↦ mem-tail l x have' (high p l lt q (grow.more l.var s))
            | inr e ↦ subst (λ (y : Lit). Contains (x ∷ have') y) (At-same t place x l a (subst (λ (n : ℕ). At t n l) e q)) (mem-head x have')
          ]),
    ),
  );
}

pub contains_taken : (n : ℕ) (t : List Lit) (l : Lit) → Contains (take n t) l → Contains t l
contains_taken n t l i = let a = At-take n t i.0 l (i.1, i.2) in At-contains t i.0 l a.1

pub once_more : (c : List Lit) (x : Lit) → NoVarTwice c → (HasVar c x.var → ⊥) → NoVarTwice (c ++ x ∷ [])
once_more [] x o n = ((λ h. omega (arith, h.1.1)), tt)
once_more (l ∷ c) x o n = (
  (λ h. elim (Contains-push_cases c x h.0 h.1) [
    | inl j ↦ o.0 (h.0, j, h.2)
    | inr e ↦ n (l, mem-head l c, sym h.2 ∙ ap (λ (y : Lit). y.var) (sym e))
  ]),
  once_more c x o.1 (λ h. n (h.0, mem-tail h.0 l c h.1, h.2)),
)

pub At-get_or : {X : Type 0} (xs : List X) (k : ℕ) (d : X) → k < length xs → At xs k (get_or xs k d)
At-get_or [] k d h = absurd (omega arith)
At-get_or (x ∷ xs) zero d h = (h, refl)
At-get_or (x ∷ xs) (suc k) d h = let r = At-get_or xs k d (omega arith) in (h, r.1)

-- the literal of the entry at a place
pub held_at : (trail : List Entry) (k : ℕ) (d : Entry) → k < length trail → At (held trail) k (get_or trail k d).lit
held_at trail k d h = At-map (λ (e : Entry). e.lit) trail k (get_or trail k d) (At-get_or trail k d h)

pub all_seen_more : (seen : List Bool) (c : List Lit) (x : Lit) → AllSeen seen c → IsVarSeen seen x.var → AllSeen seen (c ++ x ∷ [])
all_seen_more seen c x a s m i = elim (Contains-push_cases c x m i) [ inl j ↦ a m j | inr e ↦ subst (λ (y : Lit). IsVarSeen seen y.var) e s ]

pub grow_on : (a b c : List Bool) → Grow a b → Grow b c → Grow a c
grow_on a b c g h = record { same = h.same ∙ g.same; more = λ v s. h.more v (g.more v s) }

pub seen_cases : (seen : List Bool) (v w : ℕ) → v < length seen → IsVarSeen (set seen v true) w → (w ≡ v) ⊎ IsVarSeen seen w
seen_cases seen v w h s = elim (cases_eq w v) [
  | inl e ↦ inl e
  | inr n ↦ inr (sym (get_or-set_other seen v w true false n) ∙ s)
]

pub seen_more : (seen : List Bool) (v w : ℕ) → v < length seen → IsVarSeen seen w → IsVarSeen (set seen v true) w
seen_more seen v w range s = elim (cases_eq w v) [
  | inl e ↦ subst (λ (n : ℕ). IsVarSeen (set seen v true) n) (sym e) (get_or-set_same seen v true false range)
  | inr n ↦ get_or-set_other seen v w true false n ∙ s
]

pub held_length : (trail : List Entry) (k : ℕ) → k < length (held trail) → k < length trail
held_length trail k h = let e = length-map trail (λ (e : Entry). e.lit) in omega (arith, e)

pub literals_length : (cs : List Clause) (k : ℕ) → k < length (literals cs) → k < length cs
literals_length cs k h = let e = length-map cs (λ (c : Clause). c.lits) in omega (arith, e)

pub reverse_push : {X : Type 0} (xs : List X) (x : X) → reverse (xs ++ x ∷ []) ≡ x ∷ reverse xs
reverse_push xs x = reverse-append xs (x ∷ [])

pub take_wider : (n m : ℕ) (t : List Lit) (l : Lit) → n ≤ m → Contains (take n t) l → Contains (take m t) l
take_wider n m t l h i = let a = At-take n t i.0 l (i.1, i.2) in At-contains (take m t) i.0 l (At-in_take m t i.0 l (omega (arith, a.0)) a.1)

pub end_more : (t c : List Lit) (end : ℕ) (x : Lit) (n : ℕ) → EndIs t c end → Denied t x → AfterIs t x.var n → EndIs t (c ++ x ∷ []) (max end n)
end_more t c end x n e d after =
    let place : n ≡ d.0 + 1 = after d.0 (opposite x) (d.1, d.2) refl in
    record {
      all = λ m i. elim (Contains-push_cases c x m i) [
        | inl j ↦ take_wider end (max end n) t (opposite m) (omega arith) (e.all m j)
        | inr q ↦ subst (λ (y : Lit). Denied (take (max end n) t) y) q
            (At-contains (take (max end n) t) d.0 (opposite x) (At-in_take (max end n) t d.0 (opposite x) (omega (arith, place)) (d.1, d.2)))
      ];
      last = λ k q. elim (cases end n) [
        | inl lt ↦ (x, Contains-push c x, subst (λ (p : ℕ). At t p (opposite x)) (sum k lt q) (d.1, d.2))
        | inr le ↦ let r = e.last k (omega (arith, q)) in (r.0, Contains-append_left c (x ∷ []) r.0 r.1, r.2)
      ];
    }
  where
    cases : (a b : ℕ) → (a < b) ⊎ (b ≤ a)
    cases a b = grind arith

    sum : (k : ℕ) → end < n → max end n ≡ k + 1 → d.0 ≡ k
    sum k lt q = let place : n ≡ d.0 + 1 = after d.0 (opposite x) (d.1, d.2) refl in omega (arith, place, q, lt)
