-- The values of blocks all of whose places are carriers', while carriers are read.
use Rattle.std.proofs.Common.{◌≡◌, inl, inr, ℕ, ◌+◌, ◌<◌, ◌≤◌, Bool, true, false, cond, List, [], ◌∷◌, ◌++◌, length, get_or, take, Option, Some, None, Contains, refl, sym, ◌∙◌, ap, subst, arith}
use Rattle.std.specs.Prelude.{nat_eq}
use Rattle.std.proofs.lemmas.List.{take_more}
use Rattle.std.proofs.lemmas.List.Elements.{Contains-append_left, Contains-append_right, Contains-push_cases}
use Rattle.cqa_value.specs.declared.value.Value.{Value}
use Rattle.cqa_value.proofs.Words.{clash, cases_next, cases_le, mem-head, mem-tail, mem-nil, mem-cases}
use Rattle.range_ask.specs.Ranges.{cell}
use Rattle.range_ask.proofs.Ordered.{at_most-both}
use Rattle.range_join.specs.declared.carriers.Extreme.{Extreme}
use Rattle.range_join.specs.declared.carriers.Extreme.TheVariants.{Least, Greatest}
use Rattle.range_join.specs.declared.spans.Span.{Span}
use Rattle.range_join.specs.Firsts.{StandsIn, IsFirst}
use Rattle.range_join.specs.Peaks.{lags, further, NoFurther, IsPeak}
use Rattle.range_join.proofs.Peaking.{Reaches, lags-false, lags-not, eq_of, eq_self, no_further-self, peak-either}
use Rattle.range_groups.specs.declared.touched.Carrier.{Carrier}
use Rattle.range_groups.specs.Touched.{other_way, carried_at, AscendFrom, GivesSurely, IsCarried}

-- ---- the order of values

turned : (way : Extreme) (x y : Value) → NoFurther (other_way way) x y → NoFurther way y x
turned Least x y h = h
turned Greatest x y h = h

same-value : (way : Extreme) (x y : Value) → NoFurther way x y → NoFurther way y x → x ≡ y
same-value Least x y h k = at_most-both x y k h
same-value Greatest x y h k = at_most-both x y h k

pub reaches-both : (way : Extreme) (a b : Option Value) → Reaches way a b → Reaches way b a → a ≡ b
reaches-both way None None h k = refl
reaches-both way None (Some y) h k = absurd k
reaches-both way (Some x) None h k = absurd h
reaches-both way (Some x) (Some y) h k = ap Some (same-value way x y h k)

-- of the same values there is one peak
pub one-peak : (way : Extreme) (has : Value → Type 0) (a b : Option Value) → IsPeak way has a → IsPeak way has b → a ≡ b
one-peak way has None None h k = refl
one-peak way has None (Some y) h k = absurd (h y k.0)
one-peak way has (Some x) None h k = absurd (k x h.0)
one-peak way has (Some x) (Some y) h k = ap Some (same-value way x y (k.1 x h.0) (h.1 y k.0))

pub peak-one : (way : Extreme) (x : Value) → IsPeak way (λ v. x ≡ v) (Some x)
peak-one way x = (refl, λ u e. subst (λ v. NoFurther way v x) e (no_further-self way x))

pub some-same : (x v : Value) → Some x ≡ Some v → x ≡ v
some-same x v e = cc

pub none-some : (v : Value) → None ≡ Some v → ⊥
none-some v e = cc

-- ---- the open block

-- a value of the places from one on, below another
abbrev pub HasPart : (ℕ → Option Value) → ℕ → ℕ → Value → Type 0
HasPart best from bound v = (q : ℕ) × (from ≤ q) × (q < bound) × (best q ≡ Some v)

-- the places of a block below a bound were read: those from its first one on up to the next one have values, and of the
-- values so far one that lies least far is known
pub record IsPartRead (way : Extreme) (best : ℕ → Option Value) (bound : ℕ) (span : Span) (next : ℕ) (near : Option Value) : Type 0 where
  pub begun : span.from ≤ bound
  pub within : bound ≤ span.behind
  pub next_from : span.from ≤ next
  pub next_to : next ≤ span.behind
  pub carried : (q : ℕ) → span.from ≤ q → q < next → best q ≡ None → ⊥
  pub missing : next < bound → best next ≡ None
  pub near_is : IsPeak (other_way way) (HasPart best span.from bound) near

pub read-nothing : (way : Extreme) (best : ℕ → Option Value) (span : Span) → span.from ≤ span.behind → IsPartRead way best span.from span span.from None
read-nothing way best span h = record {
  begun = omega arith;
  within = h;
  next_from = omega arith;
  next_to = h;
  carried = λ q l g e. absurd (omega (arith, l, g));
  missing = λ l. absurd (omega (arith, l));
  near_is = λ v h. let a = h.1 in let b = h.2 in absurd (omega (arith, a, b));
}

module _ (way : Extreme) (best : ℕ → Option Value) (bound : ℕ) (span : Span) (next : ℕ) (near : Option Value) (r : IsPartRead way best bound span next near) where
  -- one place more that has a value
  pub read-more : (p : ℕ) (x : Value) → bound ≤ p → p < span.behind → ((q : ℕ) → bound ≤ q → q < p → best q ≡ None) → best p ≡ Some x →
      IsPartRead way best (p + 1) span (cond (nat_eq p next) (p + 1) next) (further (other_way way) near (Some x))
  read-more p x l g none here = go (nat_eq p next) refl
    where
      begun : span.from ≤ p
      begun = let a = r.begun in omega (arith, a, l)

      near_more : IsPeak (other_way way) (HasPart best span.from (p + 1)) (further (other_way way) near (Some x))
      near_more =
          peak-either (other_way way) (HasPart best span.from bound) (λ v. x ≡ v) (HasPart best span.from (p + 1))
          (λ v h. let b = h.2 in (h.0, h.1, omega (arith, b, l), h.3))
          (λ v e. (p, begun, omega arith, here ∙ ap Some e))
          (λ v h. elim (cases_next h.0 p h.2) [
            | inl less ↦ elim (cases_le bound h.0) [
              | inl at ↦ absurd (none-some v (sym (none h.0 at less) ∙ h.3))
              | inr before ↦ inl (h.0, h.1, before, h.3)
            ]
            | inr same ↦ inr (some-same x v (sym here ∙ (ap best (sym same) ∙ h.3)))
          ])
          near (Some x) r.near_is (peak-one (other_way way) x)

      missing : nat_eq p next ≡ false → next < p + 1 → best next ≡ None
      missing t m = elim (cases_next next p m) [
        | inl less ↦ elim (cases_le bound next) [ inl at ↦ none next at less | inr before ↦ r.missing before ]
        | inr same ↦ absurd (clash (nat_eq p next) (subst (λ n. nat_eq p n ≡ true) (sym same) (eq_self p)) t)
      ]

      go : (b : Bool) → nat_eq p next ≡ b → IsPartRead way best (p + 1) span (cond b (p + 1) next) (further (other_way way) near (Some x))
      go true t =
          let same = eq_of p next t in record {
            begun = (let a = begun in omega (arith, a));
            within = omega (arith, g);
            next_from = (let a = begun in omega (arith, a));
            next_to = omega (arith, g);
            carried = λ q low m e. elim (cases_next q p m) [
              | inl less ↦ r.carried q low (omega (arith, less, same)) e
              | inr at ↦ none-some x (sym e ∙ (ap best at ∙ here))
            ];
            missing = λ m. absurd (omega (arith, m));
            near_is = near_more;
          }
      go false t = record {
        begun = (let a = begun in omega (arith, a));
        within = omega (arith, g);
        next_from = r.next_from;
        next_to = r.next_to;
        carried = r.carried;
        missing = missing t;
        near_is = near_more;
      }

  -- where no further place of the block has a value
  pub sure-read : ((q : ℕ) → bound ≤ q → q < span.behind → best q ≡ None) → IsPeak way (GivesSurely way best span) (cond (nat_eq next span.behind) near None)
  sure-read none = go (nat_eq next span.behind) refl
    where
      short : nat_eq next span.behind ≡ false → next < span.behind
      short t = elim (cases_le span.behind next) [
        | inl long ↦ (
            let l = r.next_to in
            let same : next ≡ span.behind = omega (arith, l, long) in
            absurd (clash (nat_eq next span.behind) (subst (λ n. nat_eq next n ≡ true) same (eq_self next)) t)
            )
        | inr less ↦ less
      ]

      gap : nat_eq next span.behind ≡ false → best next ≡ None
      gap t = elim (cases_le bound next) [ inl at ↦ none next at (short t) | inr before ↦ r.missing before ]

      whole : next ≡ span.behind → (q : ℕ) → StandsIn span q → best q ≡ None → ⊥
      whole same q h e = let b = h.1 in r.carried q h.0 (omega (arith, b, same)) e

      early : next ≡ span.behind → (q : ℕ) → StandsIn span q → q < bound
      early same q h = elim (cases_le bound q) [
        | inl at ↦ absurd (whole same q h (none q at h.1))
        | inr before ↦ before
      ]

      peak : next ≡ span.behind → (o : Option Value) → IsPeak (other_way way) (HasPart best span.from bound) o → IsPeak way (GivesSurely way best span) o
      peak same None h = λ v s. h v (s.0, s.1.there.0, early same s.0 s.1.there, s.2)
      peak same (Some x) (has, all) = ((has.0, first, has.3), most)
        where
          there : StandsIn span has.0
          there = (has.1, (let a = has.2 in let b = r.within in omega (arith, a, b)))

          reach : (z : ℕ) → StandsIn span z → (o : Option Value) → best z ≡ o → Reaches way (Some x) o
          reach z h None e = absurd (whole same z h e)
          reach z h (Some u) e = turned way u x (all u (z, h.0, early same z h, e))

          first : IsFirst (λ p q. lags way (best p) (best q)) span has.0
          first = record {
            there = there;
            first = λ z h. lags-not way (best z) (best has.0) (subst (λ o. Reaches way o (best z)) (sym has.3) (reach z h (best z) refl));
          }

          most : (u : Value) → GivesSurely way best span u → NoFurther way u x
          most u s = subst (λ o. Reaches way (Some u) o) has.3 (subst (λ o. Reaches way o (best has.0)) s.2 (lags-false way (best has.0) (best s.0) (s.1.first has.0 there)))

      go : (b : Bool) → nat_eq next span.behind ≡ b → IsPeak way (GivesSurely way best span) (cond b near None)
      go true t = peak (eq_of next span.behind t) near r.near_is
      go false t = λ v s.
          clash (lags way (best next) (best s.0)) (ap (λ o. lags way o (best s.0)) (gap t) ∙ ap (λ o. lags way None o) s.2) (s.1.first next (r.next_from, short t))

-- ---- the carriers that are left

apart : (p q : ℕ) → p < q → nat_eq q p ≡ false
apart p q l = go (nat_eq q p) refl
  where
    go : (b : Bool) → nat_eq q p ≡ b → nat_eq q p ≡ false
    go true e = let same = eq_of q p e in absurd (omega (arith, same, l))
    go false e = e

-- none is of a place before them
pub none-before : (col n q : ℕ) (carriers : List Carrier) → AscendFrom n carriers → q < n → carried_at col carriers q ≡ None
none-before col n q [] r l = refl
none-before col n q (c ∷ carriers) r l =
    let low = r.0 in
    ap (λ b. cond b (Some (cell c.row.now col)) (carried_at col carriers q)) (apart q c.place (omega (arith, low, l))) ∙ none-before col (c.place + 1) q carriers r.1 (omega (arith, low, l))

pub carried-head : (col : ℕ) (c : Carrier) (carriers : List Carrier) → carried_at col (c ∷ carriers) c.place ≡ Some (cell c.row.now col)
carried-head col c carriers = ap (λ b. cond b (Some (cell c.row.now col)) (carried_at col carriers c.place)) (eq_self c.place)

pub carried-tail : (col : ℕ) (c : Carrier) (carriers : List Carrier) (q : ℕ) → c.place < q → carried_at col (c ∷ carriers) q ≡ carried_at col carriers q
carried-tail col c carriers q l = ap (λ b. cond b (Some (cell c.row.now col)) (carried_at col carriers q)) (other (nat_eq c.place q) refl)
  where
    other : (b : Bool) → nat_eq c.place q ≡ b → nat_eq c.place q ≡ false
    other true e = let same = eq_of c.place q e in absurd (omega (arith, same, l))
    other false e = e

-- a value that is carried to some place is carried to the place of its carrier
pub carried-some : (col n : ℕ) (carriers : List Carrier) → AscendFrom n carriers → (c : Carrier) → Contains carriers c → carried_at col carriers c.place ≡ Some (cell c.row.now col)
carried-some col n [] r c m = absurd (mem-nil c m)
carried-some col n (d ∷ carriers) r c m = elim (mem-cases c d carriers m) [
  | inl same ↦ subst (λ (e : Carrier). carried_at col (d ∷ carriers) e.place ≡ Some (cell e.row.now col)) same (carried-head col d carriers)
  | inr later ↦ (let l = behind (d.place + 1) carriers r.1 c later in carried-tail col d carriers c.place (omega (arith, l)) ∙ carried-some col (d.place + 1) carriers r.1 c later)
]
  where
    behind : (k : ℕ) (cs : List Carrier) → AscendFrom k cs → (e : Carrier) → Contains cs e → k ≤ e.place
    behind k [] r e m = absurd (mem-nil e m)
    behind k (f ∷ cs) r e m = elim (mem-cases e f cs m) [
      | inl same ↦ (let low = r.0 in let at = ap (λ (x : Carrier). x.place) same in omega (arith, low, at))
      | inr later ↦ (let low = r.0 in let more = behind (f.place + 1) cs r.1 e later in omega (arith, low, more))
    ]

pub some-carried : (col : ℕ) (carriers : List Carrier) (p : ℕ) (v : Value) → carried_at col carriers p ≡ Some v → (c : Carrier) × Contains carriers c × (c.place ≡ p) × (cell c.row.now col ≡ v)
some-carried col [] p v e = absurd (none-some v e)
some-carried col (c ∷ carriers) p v e = go (λ f. some-carried col carriers p v f) (nat_eq c.place p) refl e
  where
    go : (carried_at col carriers p ≡ Some v → (d : Carrier) × Contains carriers d × (d.place ≡ p) × (cell d.row.now col ≡ v)) → (b : Bool) → nat_eq c.place p ≡ b → cond b (Some (cell c.row.now col)) (carried_at col carriers p) ≡ Some v →
        (d : Carrier) × Contains (c ∷ carriers) d × (d.place ≡ p) × (cell d.row.now col ≡ v)
    go rest true t f = (c, mem-head c carriers, eq_of c.place p t, some-same (cell c.row.now col) v f)
    go rest false t f = let r = rest f in (r.0, mem-tail r.0 c carriers r.1, r.2, r.3)

-- one carrier more
pub carried-more : (way : Extreme) (col : ℕ) (carriers : List Carrier) (i : ℕ) (c : Carrier) → i < length carriers → c ≡ get_or carriers i c → (a : Option Value) → IsPeak way (IsCarried col (take i carriers)) a →
    IsPeak way (IsCarried col (take (i + 1) carriers)) (further way a (Some (cell c.row.now col)))
carried-more way col carriers i c l is a h =
    subst (λ cs. IsPeak way (IsCarried col cs) (further way a (Some (cell c.row.now col)))) (sym (take_more carriers i c l ∙ ap (λ (x : Carrier). take i carriers ++ x ∷ []) (sym is)))
    (peak-either way (IsCarried col (take i carriers)) (λ v. cell c.row.now col ≡ v) (IsCarried col (take i carriers ++ c ∷ []))
    (λ v d. (d.0, Contains-append_left (take i carriers) (c ∷ []) d.0 d.1, d.2))
    (λ v e. (c, Contains-append_right (take i carriers) (c ∷ []) c (mem-head c []), e))
    (λ v d. elim (Contains-push_cases (take i carriers) c d.0 d.1) [
      | inl old ↦ inl (d.0, old, d.2)
      | inr same ↦ inr (ap (λ (x : Carrier). cell x.row.now col) same ∙ d.2)
    ])
    a (Some (cell c.row.now col)) h (peak-one way (cell c.row.now col)))
