-- Propagation under decisions, up to a clause that is all denied or until nothing is left to propagate.
use Rattle.std.proofs.Common.{◌≡◌, ◌≢◌, ◌∙◌, ◌<◌, ◌≤◌, ◌⊎◌, inl, inr, ℕ, zero, suc, Bool, true, false, cond, List, [], ◌∷◌, ◌++◌, length, filter, Contains, refl, sym, ap, subst, arith}
use Rattle.std.specs.List.{range_with_len}
use Rattle.std.proofs.Math.Bool.{Bool-discrete}
use Rattle.std.proofs.lemmas.List.Elements.{Contains-append_cases, Contains-append_left, Contains-append_right}
use native.Mathlib.Decide.{ℕ_discrete}
use Rattle.cqa_value.proofs.Words.{mem-head, mem-tail, mem-nil, mem-cases, Contains-range, is_yes, yes_of, no_of, of_yes, dec_both}
use Rattle.cqa_model.proofs.Classic.{dec_each, dec_if, dec_some, find_in}
use Rattle.cqa_model.proofs.Values.{dec_by, dec_not}
use Rattle.cnf_form.specs.declared.formula.Lit.{Lit}
use Rattle.cnf_form.specs.Literals.{negated, opposite, Denied, AllDenied, OthersDenied, HasVar, AreVars, MakesTrue, SatisfiesAll}
use Rattle.cnf_form.specs.Propagation.{IsPropagation, ReachesEmpty, StaysOpen}
use Rattle.cnf_form.proofs.Lits.{equal_or_not}

-- ---- literals

pub dec_lit : (a b : Lit) → Dec (a ≡ b)
dec_lit a b = elim (equal_or_not a b) [ inl e ↦ yes e | inr f ↦ no f ]

pub dec_has : (held : List Lit) (l : Lit) → Dec (Contains held l)
dec_has held l = dec_by (λ p. subst (Contains held) (sym p.2) p.1) (λ m. (l, m, refl)) (dec_some (λ m. l ≡ m) (dec_lit l) held)

pub dec_var : (held : List Lit) (v : ℕ) → Dec (HasVar held v)
dec_var held v = dec_some (λ (l : Lit). l.var ≡ v) (λ (l : Lit). ℕ_discrete l.var v) held

pub has_var : (held : List Lit) (l : Lit) → Contains held l → HasVar held l.var
has_var held l m = (l, m, refl)

pub dec_all_denied : (held c : List Lit) → Dec (AllDenied held c)
dec_all_denied held c = dec_each (Denied held) (λ m. dec_has held (opposite m)) c

pub dec_others : (held c : List Lit) (l : Lit) → Dec (OthersDenied held c l)
dec_others held c l = dec_by (λ h m k n. h m k n) (λ h m k n. h m k n) (dec_each (λ m. m ≢ l → Denied held m) (λ m. dec_if (dec_not (dec_lit m l)) (dec_has held (opposite m))) c)

-- more literals deny more
pub denied_more : (some held c : List Lit) → ((l : Lit) → Contains some l → Contains held l) → AllDenied some c → AllDenied held c
denied_more some held c within h m k = within (opposite m) (h m k)

pub others_more : (some held c : List Lit) (l : Lit) → ((m : Lit) → Contains some m → Contains held m) → OthersDenied some c l → OthersDenied held c l
others_more some held c l within h m k n = within (opposite m) (h m k n)

-- ---- the variables without a value

module _ {A : Type 0} (p r : A → Bool) (fewer : (x : A) → r x ≡ true → p x ≡ true) where
  no_more : (xs : List A) → length (filter r xs) ≤ length (filter p xs)
  no_more [] = omega arith
  no_more (x ∷ xs) = go (p x) (r x) (fewer x) (no_more xs)
    where
      go : (a b : Bool) → (b ≡ true → a ≡ true) → length (filter r xs) ≤ length (filter p xs) → length (cond b (x ∷ filter r xs) (filter r xs)) ≤ length (cond a (x ∷ filter p xs) (filter p xs))
      go true true f more = omega (arith, more)
      go true false f more = omega (arith, more)
      go false true f more = absurd (let e = f refl in cc e)
      go false false f more = more

  one_less : (xs : List A) (x : A) → Contains xs x → p x ≡ true → r x ≡ false → length (filter r xs) < length (filter p xs)
  one_less [] x m e f = absurd (mem-nil x m)
  one_less (y ∷ xs) x m e f = go (p y) refl (r y) refl (mem-cases x y xs m) (λ n. one_less xs x n e f) (no_more xs)
    where
      go : (a : Bool) → p y ≡ a → (b : Bool) → r y ≡ b → (y ≡ x) ⊎ Contains xs x → (Contains xs x → length (filter r xs) < length (filter p xs)) → length (filter r xs) ≤ length (filter p xs) →
          length (cond b (y ∷ filter r xs) (filter r xs)) < length (cond a (y ∷ filter p xs) (filter p xs))
      go true ea true eb (inl s) less more = absurd (let q : true ≡ false = sym eb ∙ ap r s ∙ f in cc q)
      go true ea true eb (inr n) less more = let l = less n in omega (arith, l)
      go true ea false eb s less more = omega (arith, more)
      go false ea b eb (inl s) less more = absurd (let q : false ≡ true = sym ea ∙ ap p s ∙ e in cc q)
      go false ea true eb (inr n) less more = absurd (let q : false ≡ true = sym ea ∙ fewer y eb in cc q)
      go false ea false eb (inr n) less more = less n

module _ (n : ℕ) where
  abbrev is_open : List Lit → ℕ → Bool
  is_open held v = is_yes (dec_not (dec_var held v))

  abbrev pub open_count : List Lit → ℕ
  open_count held = length (filter (is_open held) (range_with_len 1 n))

  -- a literal of an open variable more, and fewer are open
  pub fewer_open : (held more : List Lit) (v : ℕ) → 1 ≤ v → v ≤ n → ((l : Lit) → Contains held l → Contains more l) → (HasVar held v → ⊥) → HasVar more v → open_count more < open_count held
  fewer_open held more v low high within free has =
      one_less (is_open held) (is_open more)
      (λ w e. yes_of (dec_not (dec_var held w)) (λ h. of_yes (dec_not (dec_var more w)) e (h.0, within h.0 h.1, h.2)))
      (range_with_len 1 n) v (Contains-range 1 n v low (omega (arith, high))) (yes_of (dec_not (dec_var held v)) free) (no_of (dec_not (dec_var more v)) (λ f. f has))

-- ---- propagation under decisions, the newest literal first

abbrev pub IsUnder : List (List Lit) → List Lit → List Lit → Type 0
IsUnder cs decided [] = Unit {0}
IsUnder cs decided (u ∷ us) = ((c : List Lit) × Contains cs c × Contains c u × OthersDenied (us ++ decided) c u) × IsUnder cs decided us

-- some clause is all denied
abbrev pub HasConflict : List (List Lit) → List Lit → Type 0
HasConflict cs held = (c : List Lit) × Contains cs c × AllDenied held c

-- no clause is all denied, and none gives a literal that isn't held
pub record IsClosed (cs : List (List Lit)) (held : List Lit) : Type 0 where
  pub free : HasConflict cs held → ⊥
  pub unit : (c : List Lit) → Contains cs c → (u : Lit) → Contains c u → OthersDenied held c u → Contains held u

pub record Reached (cs : List (List Lit)) (decided : List Lit) : Type 0 where
  pub us : List Lit
  pub under : IsUnder cs decided us
  pub ends : HasConflict cs (us ++ decided) ⊎ IsClosed cs (us ++ decided)

-- the same under one decision more
pub one_decision : (cs : List (List Lit)) (decided us : List Lit) (l : Lit) → IsUnder cs decided us → IsUnder cs (l ∷ decided) us
one_decision cs decided [] l h = tt
one_decision cs decided (u ∷ us) l h = ((h.0.0, h.0.1, h.0.2, others_more (us ++ decided) (us ++ l ∷ decided) h.0.0 u (more us) h.0.3), one_decision cs decided us l h.1)
  where
    more : (us : List Lit) (m : Lit) → Contains (us ++ decided) m → Contains (us ++ l ∷ decided) m
    more us m k = elim (Contains-append_cases us decided m k) [ inl a ↦ Contains-append_left us (l ∷ decided) m a | inr a ↦ Contains-append_right us (l ∷ decided) m (mem-tail m l decided a) ]

module _ (cs : List (List Lit)) (n : ℕ) (range : (c : List Lit) → Contains cs c → AreVars n c) where
  -- a clause gives a literal that isn't held
  abbrev Gives : List Lit → List Lit → Type 0
  Gives held c = (u : Lit) × Contains c u × (OthersDenied held c u × (Contains held u → ⊥))

  dec_gives : (held c : List Lit) → Dec (Gives held c)
  dec_gives held c = dec_some (λ u. OthersDenied held c u × (Contains held u → ⊥)) (λ u. dec_both (dec_others held c u) (dec_not (dec_has held u))) c

  -- where the literal isn't denied, it is of an open variable
  still_open : (held c : List Lit) → (AllDenied held c → ⊥) → (u : Lit) → OthersDenied held c u → (Contains held u → ⊥) → HasVar held u.var → ⊥
  still_open held c free u others apart (m, k, e) = go (Bool-discrete m.positive u.positive)
    where
      turned : (a b : Bool) → (a ≡ b → ⊥) → a ≡ negated b
      turned true true f = absurd (f refl)
      turned true false f = refl
      turned false true f = refl
      turned false false f = absurd (f refl)

      go : Dec (m.positive ≡ u.positive) → ⊥
      go (yes s) = apart (subst (Contains held) (λ i. record { var = e i; positive = s i }) k)
      go (no f) = free (λ z mz. elim (equal_or_not z u) [
        | inl same ↦ subst (Contains held) (λ i. record { var = (e ∙ ap (λ (l : Lit). l.var) (sym same)) i; positive = (turned m.positive u.positive f ∙ ap (λ (l : Lit). negated l.positive) (sym same)) i }) k
        | inr other ↦ others z mz other
      ])

  pub closure : (fuel : ℕ) (decided us : List Lit) → open_count n (us ++ decided) < fuel → IsUnder cs decided us → Reached cs decided
  closure zero decided us few under = absurd (omega (arith, few))
  closure (suc fuel) decided us few under = start (dec_some (AllDenied (us ++ decided)) (dec_all_denied (us ++ decided)) cs) (λ vs l h. closure fuel decided vs l h)
    where
      start : Dec (HasConflict cs (us ++ decided)) → ((vs : List Lit) → open_count n (vs ++ decided) < fuel → IsUnder cs decided vs → Reached cs decided) → Reached cs decided
      start (yes conflict) more = record { us = us; under = under; ends = inl conflict }
      start (no none) more = on (dec_some (Gives (us ++ decided)) (dec_gives (us ++ decided)) cs)
        where
          held : {l : Lit} → Dec (Contains (us ++ decided) l) → ((Contains (us ++ decided) l → ⊥) → ⊥) → Contains (us ++ decided) l
          held (yes m) f = m
          held (no g) f = absurd (f g)

          on : Dec ((c : List Lit) × Contains cs c × Gives (us ++ decided) c) → Reached cs decided
          on (yes (c, m, (u, k, (others, apart)))) =
              let unset = still_open (us ++ decided) c (λ all. none (c, m, all)) u others apart in
              let low = (range c m u k).0 in
              let high = (range c m u k).1 in
              let less = fewer_open n (us ++ decided) (u ∷ us ++ decided) u.var low high (λ l h. mem-tail l u (us ++ decided) h) unset (u, mem-head u (us ++ decided), refl) in
              more (u ∷ us) (omega (arith, few, less)) ((c, m, k, others), under)
          on (no nothing) = record {
            us = us;
            under = under;
            ends = inr (record { free = none; unit = λ c m u k others. held (dec_has (us ++ decided) u) (λ apart. nothing (c, m, (u, k, (others, apart)))) });
          }

-- ---- what a closed list says

module _ (cs : List (List Lit)) (held : List Lit) (closed : IsClosed cs held) where
  pub propagation_within : (p : List Lit) → IsPropagation cs p → (l : Lit) → Contains p l → Contains held l
  propagation_within [] h l m = absurd (mem-nil l m)
  propagation_within (x ∷ before) h l m = elim (mem-cases l x before m) [
    | inl e ↦ subst (Contains held) e (closed.unit h.0.0 h.0.1 x h.0.2 (others_more before held h.0.0 x (λ z k. propagation_within before h.1 z k) h.0.3))
    | inr n ↦ propagation_within before h.1 l n
  ]

  pub never_empty : ReachesEmpty cs → ⊥
  never_empty r = closed.free (r.2.0, r.2.1, denied_more r.0 held r.2.0 (propagation_within r.0 r.1) r.2.2)

  pub stays_open : (v : ℕ) → (HasVar held v → ⊥) → StaysOpen cs v
  stays_open v free p is has = free (has.0, propagation_within p is has.0 has.1, has.2)

  -- where each variable has a value, these satisfy all clauses
  abbrev given : ℕ → Bool
  given v = is_yes (dec_has held (record { var = v; positive = true }))

  pub satisfied : ((c : List Lit) → Contains cs c → (l : Lit) → Contains c l → HasVar held l.var) → SatisfiesAll given cs
  satisfied all c m = elim (find_in (Denied held) (λ l. dec_has held (opposite l)) c) [
    | inl denied ↦ absurd (closed.free (c, m, denied))
    | inr one ↦ (one.0, one.1, true_of one.0 one.2 (all c m one.0 one.1))
  ]
    where
      true_of : (l : Lit) → (Denied held l → ⊥) → HasVar held l.var → MakesTrue given l
      true_of l free (h, kh, e) = go l.positive refl (Bool-discrete h.positive l.positive)
        where
          here : h.positive ≡ l.positive → Contains held l
          here s = subst (Contains held) (λ i. record { var = e i; positive = s i }) kh

          turned : (a b : Bool) → (a ≡ b → ⊥) → a ≡ negated b
          turned true true f = absurd (f refl)
          turned true false f = refl
          turned false true f = refl
          turned false false f = absurd (f refl)

          go : (b : Bool) → l.positive ≡ b → Dec (h.positive ≡ l.positive) → MakesTrue given l
          go b q (no f) = absurd (free (subst (Contains held) (λ i. record { var = e i; positive = turned h.positive l.positive f i }) kh))
          go true q (yes s) = yes_of (dec_has held (record { var = l.var; positive = true })) (subst (Contains held) (λ i. record { var = l.var; positive = q i }) (here s)) ∙ sym q
          go false q (yes s) = no_of (dec_has held (record { var = l.var; positive = true })) (λ m. free (subst (Contains held) (λ i. record { var = l.var; positive = negated (sym q i) }) m)) ∙ sym q
