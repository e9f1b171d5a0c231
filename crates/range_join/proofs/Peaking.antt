-- Values that lie furthest one way, of rows and of lists with one row of each block.
use Rattle.std.proofs.Common.{◌≡◌, ◌≢◌, ◌⊎◌, inl, inr, ℕ, ◌+◌, ◌<◌, Bool, true, false, cond, List, Option, Some, None, Contains, refl, sym, ◌∙◌, ap, subst, arith, Ordering, Less, Equal, Greater}
use Rattle.std.specs.Borrow.{Bor}
use Rattle.std.specs.Option.{option_copied}
use Rattle.std.specs.Prelude.{nat_eq, nat_lt, T}
use Rattle.std.proofs.Math.Dec.{eqb_refl}
use Rattle.std.proofs.Math.Facts.{eqb_yes}
use Rattle.std.proofs.lemmas.Bool.{lt-ltb, ltb-true, le-ltb}
use Rattle.std.specs.List.{AllZip}
use Rattle.std.specs.Ordering.{is_lt, ordering_reverse}
use Rattle.cqa_value.specs.declared.value.Value.{Value}
use Rattle.cqa_value.specs.Values.{value_cmp, value_cmp_total}
use Rattle.cqa_value.proofs.Words.{all_zip_right, cases_next, clash}
use Rattle.aggregate_range.specs.declared.aggregate.End.{End}
use Rattle.aggregate_range.specs.declared.aggregate.End.TheVariants.{Empty, Number, Held}
use Rattle.join_access.proofs.Naming.{zip-left}
use Rattle.range_ask.specs.Ranges.{IsUpTo}
use Rattle.range_ask.specs.Reaching.{as_end}
use Rattle.range_ask.proofs.Ordered.{before-self, before-trans, lt-before, lt-behind, gt-before, gt-behind, not_gt}
use Rattle.range_ask.specs.declared.way.Way.TheVariants.{Up, Down}
use Rattle.range_join.specs.declared.carriers.Extreme.{Extreme}
use Rattle.range_join.specs.declared.carriers.Extreme.TheVariants.{Least, Greatest}
use Rattle.range_join.specs.declared.spans.Span.{Span}
use Rattle.range_join.specs.Firsts.{StandsIn, IsStrictOrder, IsFirst}
use Rattle.range_join.specs.Peaks.{NoFurther, lags, further, IsPeak, HasSome, value_end, HasEnd, peak_from, held_value, AreBest, rank, rank_of, IsTopPlace}

-- the value of a row as an end
pub end-held : (col : ℕ) (row : Option (Bor (List Value))) → as_end col (option_copied row) ≡ value_end (held_value col row)
end-held col None = refl
end-held col (Some row) = refl

-- of a row whose value is the furthest of those at places
pub end-furthest : (way : Extreme) (col : ℕ) (row : Option (Bor (List Value))) (best : ℕ → Option Value) (places items : List ℕ) → held_value col row ≡ peak_from way None best places → places ≡ items → (end : End) → end ≡ as_end col (option_copied row) → end ≡ value_end (peak_from way None best items)
end-furthest way col row best places items h i end e = e ∙ (end-held col row ∙ ap value_end (h ∙ ap (peak_from way None best) i))

-- ---- the order of values

-- a value, if there is one, lies no further than another
abbrev pub Reaches : Extreme → Option Value → Option Value → Type 0
Reaches way None b = Unit {0}
Reaches way (Some x) None = ⊥
Reaches way (Some x) (Some y) = NoFurther way x y

pub no_further-self : (way : Extreme) (x : Value) → NoFurther way x x
no_further-self Least x = before-self Down x
no_further-self Greatest x = before-self Up x

pub no_further-trans : (way : Extreme) (x y z : Value) → NoFurther way x y → NoFurther way y z → NoFurther way x z
no_further-trans Least x y z h k = before-trans Down x y z h k
no_further-trans Greatest x y z h k = before-trans Up x y z h k

reaches-self : (way : Extreme) (a : Option Value) → Reaches way a a
reaches-self way None = tt
reaches-self way (Some x) = no_further-self way x

pub reaches-trans : (way : Extreme) (a b c : Option Value) → Reaches way a b → Reaches way b c → Reaches way a c
reaches-trans way None b c h k = tt
reaches-trans way (Some x) None c h k = absurd h
reaches-trans way (Some x) (Some y) None h k = absurd k
reaches-trans way (Some x) (Some y) (Some z) h k = no_further-trans way x y z h k

pub lags-true : (way : Extreme) (a b : Option Value) → lags way a b ≡ true → Reaches way a b
lags-true way a None t = absurd (clash false t refl)
lags-true way None (Some y) t = tt
lags-true Least (Some x) (Some y) t = gt-before x y t
lags-true Greatest (Some x) (Some y) t = lt-before x y t

pub lags-false : (way : Extreme) (a b : Option Value) → lags way a b ≡ false → Reaches way b a
lags-false way a None t = tt
lags-false way None (Some y) t = absurd (clash true refl t)
lags-false Least (Some x) (Some y) t = gt-behind x y t
lags-false Greatest (Some x) (Some y) t = lt-behind x y t

not_lt : (o p : Ordering) → p ≡ ordering_reverse o → o ≢ Greater → is_lt p ≡ false
not_lt Less p e n = ap is_lt e
not_lt Equal p e n = ap is_lt e
not_lt Greater p e n = absurd (n refl)

pub lags-not : (way : Extreme) (a b : Option Value) → Reaches way b a → lags way a b ≡ false
lags-not way a None r = refl
lags-not way None (Some y) r = absurd r
lags-not Least (Some x) (Some y) r = not_gt (value_cmp x y) r
lags-not Greatest (Some x) (Some y) r = not_lt (value_cmp y x) (value_cmp x y) (value_cmp_total.antisymm x y) r

is-true : (b : Bool) → (b ≡ false → ⊥) → b ≡ true
is-true true n = refl
is-true false n = absurd (n refl)

lags-trans : (way : Extreme) (a b c : Option Value) → lags way a b ≡ true → lags way b c ≡ true → lags way a c ≡ true
lags-trans way a b c h k =
    is-true (lags way a c) (λ e. clash (lags way b c) k (lags-not way b c (reaches-trans way c a b (lags-false way a c e) (lags-true way a b h))))

pub nearest-order : (way : Extreme) (best : ℕ → Option Value) → IsStrictOrder (λ p q. lags way (best p) (best q))
nearest-order way best = record {
  not_itself = λ p. lags-not way (best p) (best p) (reaches-self way (best p));
  through = λ p q r h k. lags-trans way (best p) (best q) (best r) h k;
}

pub furthest-order : (way : Extreme) (best : ℕ → Option Value) → IsStrictOrder (λ p q. lags way (best q) (best p))
furthest-order way best = record {
  not_itself = λ p. lags-not way (best p) (best p) (reaches-self way (best p));
  through = λ p q r h k. lags-trans way (best r) (best q) (best p) k h;
}

pub eq_of : (p q : ℕ) → nat_eq p q ≡ true → p ≡ q
eq_of p q e = eqb_yes (subst T (sym e) tt)

pub eq_self : (p : ℕ) → nat_eq p p ≡ true
eq_self p = is-true (nat_eq p p) (λ e. subst T e (eqb_refl p))

lt-same : (n : ℕ) → nat_lt n n ≡ false
lt-same n = le-ltb n n (omega arith)

lt-through : (i j k : ℕ) → nat_lt i j ≡ true → nat_lt j k ≡ true → nat_lt i k ≡ true
lt-through i j k h l = let a = ltb-true i j h in let b = ltb-true j k l in lt-ltb i k (omega (arith, a, b))

pub rank-order : (top : ℕ) (best : ℕ → Option Value) → IsStrictOrder (λ p q. nat_lt (rank top best p) (rank top best q))
rank-order top best = record {
  not_itself = λ p. lt-same (rank top best p);
  through = λ p q r h k. lt-through (rank top best p) (rank top best q) (rank top best r) h k;
}

-- ---- the value that lies further of two

pub further-first : (way : Extreme) (a b : Option Value) → Reaches way a (further way a b)
further-first way a b = go (lags way a b) refl
  where
    go : (l : Bool) → lags way a b ≡ l → Reaches way a (cond l b a)
    go true e = lags-true way a b e
    go false e = reaches-self way a

pub further-second : (way : Extreme) (a b : Option Value) → Reaches way b (further way a b)
further-second way a b = go (lags way a b) refl
  where
    go : (l : Bool) → lags way a b ≡ l → Reaches way b (cond l b a)
    go true e = reaches-self way b
    go false e = lags-false way a b e

-- values that lie no further than one that there is
pub peak-reaches : (way : Extreme) (has : Value → Type 0) (a : Option Value) → IsPeak way has a → (v : Value) → has v → Reaches way (Some v) a
peak-reaches way has None h v m = h v m
peak-reaches way has (Some x) h v m = h.1 v m

-- the peak of the values of either kind
module _ (way : Extreme) (A B C : Value → Type 0) (left : (v : Value) → A v → C v) (right : (v : Value) → B v → C v) (both : (v : Value) → C v → A v ⊎ B v) where
  bounds : (a b : Option Value) → IsPeak way A a → IsPeak way B b → (v : Value) → C v → Reaches way (Some v) (further way a b)
  bounds a b h k v m = elim (both v m) [
    | inl n ↦ reaches-trans way (Some v) a (further way a b) (peak-reaches way A a h v n) (further-first way a b)
    | inr n ↦ reaches-trans way (Some v) b (further way a b) (peak-reaches way B b k v n) (further-second way a b)
  ]

  pub peak-either : (a b : Option Value) → IsPeak way A a → IsPeak way B b → IsPeak way C (further way a b)
  peak-either a b h k = go (lags way a b) refl
    where
      at : (l : Bool) → lags way a b ≡ l → (v : Value) → C v → Reaches way (Some v) (cond l b a)
      at l e = subst (λ c. (v : Value) → C v → Reaches way (Some v) (cond c b a)) e (bounds a b h k)

      of : (X : Value → Type 0) → ((v : Value) → X v → C v) → (o : Option Value) → IsPeak way X o → ((v : Value) → C v → Reaches way (Some v) o) → IsPeak way C o
      of X put None p r = r
      of X put (Some x) p r = (put x p.0, r)

      go : (l : Bool) → lags way a b ≡ l → IsPeak way C (cond l b a)
      go true e = of B right b k (at true e)
      go false e = of A left a h (at false e)

-- peaks of the same values
pub peak-same : (way : Extreme) (A B : Value → Type 0) → ((v : Value) → A v → B v) → ((v : Value) → B v → A v) → (a : Option Value) → IsPeak way A a → IsPeak way B a
peak-same way A B f g None h = λ v m. h v (g v m)
peak-same way A B f g (Some x) h = (f x h.0, λ v m. h.1 v (g v m))

-- ---- the values of places

module _ (way : Extreme) (has : ℕ → Value → Type 0) (n : ℕ) (best : ℕ → Option Value) (are : AreBest way has n best) where
  -- a place whose peak lies as far as a value's place
  reached : (ys : List ℕ) → ((p : ℕ) → Contains ys p → p < n) → (b : Option Value) → IsPeak way (HasSome has ys) b → (a : Option Value) → (q : ℕ) → Contains ys q → Reaches way a (best q) → Reaches way a b
  reached ys below b h a q m r = go a (best q) refl r
    where
      go : (a c : Option Value) → best q ≡ c → Reaches way a c → Reaches way a b
      go None c e r = tt
      go (Some x) None e r = absurd r
      go (Some x) (Some y) e r =
          let has_y = (subst (IsPeak way (has q)) e (are q (below q m))).0 in
          reaches-trans way (Some x) (Some y) b r (peak-reaches way (HasSome has ys) b h y (q, m, has_y))

  -- where for each place of the one list the other has one that lies no less far
  pub peaks-reach : (xs ys : List ℕ) → ((p : ℕ) → Contains xs p → p < n) → ((p : ℕ) → Contains ys p → p < n) → ((p : ℕ) → Contains xs p → (q : ℕ) × Contains ys q × Reaches way (best p) (best q)) →
      (a b : Option Value) → IsPeak way (HasSome has xs) a → IsPeak way (HasSome has ys) b → Reaches way a b
  peaks-reach xs ys in_x in_y each None b h k = tt
  peaks-reach xs ys in_x in_y each (Some x) b ((p, m, v), all) k =
      let q = each p m in
      reached ys in_y b k (Some x) q.0 q.1 (reaches-trans way (Some x) (best p) (best q.0) (peak-reaches way (has p) (best p) (are p (in_x p m)) x v) q.2)

  module _ (spans : List Span) (xs ys : List ℕ) (in_x : (p : ℕ) → Contains xs p → p < n) (in_y : (p : ℕ) → Contains ys p → p < n) (there : AllZip StandsIn spans ys) (a b : Option Value)
      (h : IsPeak way (HasSome has xs) a) (k : IsPeak way (HasSome has ys) b) where
    -- places of which each lies least far of its block
    pub nearest-reach : AllZip (IsFirst (λ p q. lags way (best p) (best q))) spans xs → Reaches way a b
    nearest-reach firsts = peaks-reach xs ys in_x in_y (λ p m.
        let s = all_zip_right (IsFirst (λ p q. lags way (best p) (best q))) spans xs p firsts m in
        let q = zip-left StandsIn spans ys there s.0 s.1 in
        (q.0, q.1, lags-false way (best q.0) (best p) (s.2.first q.0 q.2))) a b h k

    -- and furthest
    pub furthest-reach : AllZip (IsFirst (λ p q. lags way (best q) (best p))) spans xs → Reaches way b a
    furthest-reach firsts = peaks-reach ys xs in_y in_x (λ p m.
        let s = all_zip_right StandsIn spans ys p there m in
        let q = zip-left (IsFirst (λ p q. lags way (best q) (best p))) spans xs firsts s.0 s.1 in
        (q.0, q.1, lags-false way (best q.0) (best p) (q.2.first p s.2))) b a k h

-- ---- the top of places

pub top-more : (way : Extreme) (best : ℕ → Option Value) (n top : ℕ) → IsTopPlace way best n top → lags way (best top) (best n) ≡ true → IsTopPlace way best (n + 1) n
top-more way best n top h t p l = elim (cases_next p n l) [
  | inl lt ↦ lags-not way (best n) (best p) (reaches-trans way (best p) (best top) (best n) (lags-false way (best top) (best p) (h p lt)) (lags-true way (best top) (best n) t))
  | inr same ↦ subst (λ q. lags way (best n) (best q) ≡ false) (sym same) (lags-not way (best n) (best n) (reaches-self way (best n)))
]

pub top-stays : (way : Extreme) (best : ℕ → Option Value) (n top : ℕ) → IsTopPlace way best n top → lags way (best top) (best n) ≡ false → IsTopPlace way best (n + 1) top
top-stays way best n top h t p l = elim (cases_next p n l) [
  | inl lt ↦ h p lt
  | inr same ↦ subst (λ q. lags way (best top) (best q) ≡ false) (sym same) t
]

-- ---- ends

pub of-end : (way : Extreme) (has : ℕ → Value → Type 0) (places : List ℕ) (end : End) → HasEnd way has places end → (o : Option Value) × (end ≡ value_end o) × IsPeak way (HasSome has places) o
of-end way has places Empty h = (None, refl, h)
of-end way has places (Number n) h = absurd h
of-end way has places (Held v) h = (Some v, refl, h)

pub to-end : (way : Extreme) (has : ℕ → Value → Type 0) (places : List ℕ) (o : Option Value) → IsPeak way (HasSome has places) o → HasEnd way has places (value_end o)
to-end way has places None h = h
to-end way has places (Some v) h = h

pub greatest-up_to : (a b : Option Value) → Reaches Greatest a b → IsUpTo (value_end a) (value_end b)
greatest-up_to None b r = tt
greatest-up_to (Some x) None r = absurd r
greatest-up_to (Some x) (Some y) r = r

-- where some value lies least far, others lie between, for least values too
pub least-up_to : (v : Value) (o b : Option Value) → Reaches Least (Some v) o → Reaches Least o b → IsUpTo (value_end b) (value_end o) × IsUpTo (value_end o) (value_end (Some v))
least-up_to v None b r s = absurd r
least-up_to v (Some x) None r s = absurd s
least-up_to v (Some x) (Some y) r s = (s, r)

-- ---- where no block is sure to give a value

module _ (has : ℕ → Value → Type 0) (n : ℕ) (best : ℕ → Option Value) (are : AreBest Least has n best) (top : ℕ) (is : IsTopPlace Greatest best n top) where
  -- no least value lies above that of the top
  pub below-top : (ys : List ℕ) → ((p : ℕ) → Contains ys p → p < n) → (o : Option Value) → IsPeak Least (HasSome has ys) o → Reaches Greatest o (best top)
  below-top ys below None h = tt
  below-top ys below (Some x) ((p, m, v), all) = reaches-trans Greatest (Some x) (best p) (best top) (go (best p) refl) (lags-false Greatest (best top) (best p) (is p (below p m)))
    where
      go : (c : Option Value) → best p ≡ c → Reaches Greatest (Some x) c
      go None e = subst (IsPeak Least (has p)) e (are p (below p m)) x v
      go (Some y) e = all y (p, m, (subst (IsPeak Least (has p)) e (are p (below p m))).0)

  module _ (spans : List Span) (xs zs : List ℕ) (in_x : (p : ℕ) → Contains xs p → p < n) (in_z : (p : ℕ) → Contains zs p → p < n) (there : AllZip StandsIn spans xs)
      (ranked : AllZip (IsFirst (λ p q. nat_lt (rank top best p) (rank top best q))) spans zs) (none : IsPeak Least (HasSome has xs) None) where
    abbrev First : Span → ℕ → Type 0
    First span p = IsFirst (λ p q. nat_lt (rank top best p) (rank top best q)) span p

    bare : (q : ℕ) → Contains xs q → best q ≡ None
    bare q m = go (best q) refl
      where
        go : (c : Option Value) → best q ≡ c → best q ≡ None
        go None e = e
        go (Some v) e = absurd (none v (q, m, (subst (IsPeak Least (has q)) e (are q (in_x q m))).0))

    -- a place without a value goes before one with a value that isn't the top
    goes-before : (q p : ℕ) → best q ≡ None → nat_eq p top ≡ false → (v : Value) → best p ≡ Some v → nat_lt (rank top best q) (rank top best p) ≡ true
    goes-before q p e t v f =
        ap (λ r. nat_lt (rank top best q) r) (ap (λ b. cond b 0 (rank_of (best p))) t ∙ ap rank_of f) ∙ (ap (λ o. nat_lt (cond (nat_eq q top) 0 (rank_of o)) 2) e ∙ go (nat_eq q top))
      where
        go : (b : Bool) → nat_lt (cond b 0 1) 2 ≡ true
        go true = refl
        go false = refl

    top-or_none : (p : ℕ) → Contains zs p → (p ≡ top) ⊎ (best p ≡ None)
    top-or_none p m = go (nat_eq p top) refl (best p) refl
      where
        go : (b : Bool) → nat_eq p top ≡ b → (c : Option Value) → best p ≡ c → (p ≡ top) ⊎ (best p ≡ None)
        go true e c f = inl (eq_of p top e)
        go false e None f = inr f
        go false e (Some v) f =
            let s = all_zip_right First spans zs p ranked m in
            let q = zip-left StandsIn spans xs there s.0 s.1 in
            absurd (clash (nat_lt (rank top best q.0) (rank top best p)) (goes-before q.0 p (bare q.0 q.1) e v f) (s.2.first q.0 q.2))

    -- the top is taken of its block
    top-taken : (span : Span) → Contains spans span → StandsIn span top → Contains zs top
    top-taken span m t =
        let z = zip-left First spans zs ranked span m in
        subst (Contains zs) (eq_of z.0 top (is-true (nat_eq z.0 top) (λ e. clash (nat_lt (rank top best top) (rank top best z.0)) (later z.0 e) (z.2.first top t)))) z.1
      where
        later : (z : ℕ) → nat_eq z top ≡ false → nat_lt (rank top best top) (rank top best z) ≡ true
        later z e =
            ap (λ b. nat_lt (cond b 0 (rank_of (best top))) (rank top best z)) (eq_self top) ∙ (ap (λ b. nat_lt 0 (cond b 0 (rank_of (best z)))) e ∙ go (best z))
          where
            go : (c : Option Value) → nat_lt 0 (rank_of c) ≡ true
            go None = refl
            go (Some v) = refl

    -- so its value is the least one
    pub alone-peak : ((t : Value) → best top ≡ Some t → (span : Span) × Contains spans span × StandsIn span top) → IsPeak Least (HasSome has zs) (best top)
    alone-peak spot = go (best top) refl
      where
        empty : (p : ℕ) → Contains zs p → best p ≡ None → (v : Value) → has p v → ⊥
        empty p m e v h = subst (IsPeak Least (has p)) e (are p (in_z p m)) v h

        go : (c : Option Value) → best top ≡ c → IsPeak Least (HasSome has zs) c
        go None e = λ v h. elim (top-or_none h.0 h.1) [
          | inl same ↦ empty h.0 h.1 (ap best same ∙ e) v h.2
          | inr bare ↦ empty h.0 h.1 bare v h.2
        ]
        go (Some t) e =
            let s = spot t e in
            let m = top-taken s.0 s.1 s.2 in
            let peak = subst (IsPeak Least (has top)) e (are top (in_z top m)) in (
              (top, m, peak.0),
              λ v h. elim (top-or_none h.0 h.1) [
                | inl same ↦ peak.1 v (subst (λ p. has p v) same h.2)
                | inr bare ↦ absurd (empty h.0 h.1 bare v h.2)
              ],
            )
