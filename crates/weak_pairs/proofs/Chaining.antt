-- The rows of a bucket, chained backwards: one row more, and how far a chain was gone back.
use Rattle.std.proofs.Common.{◌≡◌, ◌≢◌, ℕ, ◌+◌, ◌<◌, ◌≤◌, inl, inr, Option, List, [], ◌∷◌, ◌++◌, length, replicate, refl, sym, ◌∙◌, ap, subst, arith, set, get_or}
use native.Mathlib.Decide.{ℕ_discrete, dec_lt}
use Rattle.std.proofs.lemmas.List.{length-set, length_push, get_or-replicate, get_or_append_left, get_or_push}
use Rattle.cqa_value.proofs.Words.{each_put}
use Rattle.cqa_value.specs.declared.value.Value.{Value}
use Rattle.weak_pairs.specs.EdgeNumbers.{HaveOne, AreChained, AreChainedByLists, AreLast, IsLinked}

-- what is true of each place of a list, once a number more is behind it of which it is true
pub each_pushed : (P : ℕ → ℕ → Type 0) (xs : List ℕ) (k x i : ℕ) → length xs ≡ k → i < k + 1 → P k x → (i < k → P i (get_or xs i 0)) → P i (get_or (xs ++ x ∷ []) i 0)
each_pushed P xs k x i size l this others = go (ℕ_discrete i k)
  where
    go : Dec (i ≡ k) → P i (get_or (xs ++ x ∷ []) i 0)
    go (yes same) = subst (λ c. P c (get_or (xs ++ x ∷ []) c 0)) (sym same) (subst (P k) (sym (get_or_push xs x 0 k size)) this)
    go (no other) = let low : i < k = omega (arith, l, other) in
        subst (P i) (sym (get_or_append_left xs (x ∷ []) 0 i (subst (λ n. i < n) (sym size) low))) (others low)

module _ (g : ℕ → ℕ) (buckets k : ℕ) (before last new : List ℕ) (r : ℕ) (size : length last ≡ buckets) (c : AreChained g buckets k before) (a : AreLast g k last) where
  chained-in : IsLinked last new (g k) (k + 1) r → AreChained g buckets (k + 1) (before ++ r ∷ [])
  chained-in is = record {
    size = let l = length_push before r in let s = c.size in omega (arith, l, s);
    low = λ i l. each_pushed (λ j x. x ≤ j) before k r i c.size l (low is) (λ m. c.low i m);
    same = λ i p l. each_pushed (λ j x. x ≡ p + 1 → g p ≡ g j) before k r i c.size l (same is p) (λ m. c.same i p m);
    free = λ i q l. each_pushed (λ j x. g j < buckets → x ≤ q → q < j → g q ≡ g j → ⊥) before k r i c.size l (free is q) (λ m. c.free i q m);
  }
    where
      low : IsLinked last new (g k) (k + 1) r → r ≤ k
      low (inl h) = subst (λ z. z ≤ k) (sym h.1) (a.low (g k) h.0)
      low (inr h) = let z = h.1 in omega (arith, z)

      same : IsLinked last new (g k) (k + 1) r → (p : ℕ) → r ≡ p + 1 → g p ≡ g k
      same (inl h) p e = a.same (g k) p h.0 (sym h.1 ∙ e)
      same (inr h) p e = let z = h.1 in absurd (omega (arith, z, e))

      free : IsLinked last new (g k) (k + 1) r → (q : ℕ) → g k < buckets → r ≤ q → q < k → g q ≡ g k → ⊥
      free (inl h) q l from to e = a.free (g k) q h.0 (subst (λ z. z ≤ q) h.1 from) to e
      free (inr h) q l from to e = let o = h.0 in absurd (omega (arith, o, l, size))

  last-in : IsLinked last new (g k) (k + 1) r → AreLast g (k + 1) new
  last-in (inl h) = subst (AreLast g (k + 1)) (sym h.2) (record {
    low = λ b l. each_put (λ _ x. x ≤ k + 1) last (g k) (k + 1) b h.0 (omega arith) (λ _. let m = a.low b (inside b l) in omega (arith, m));
    same = λ b p l. each_put (λ c x. x ≡ p + 1 → g p ≡ c) last (g k) (k + 1) b h.0 (λ e. let m : p ≡ k = omega (arith, e) in ap g m) (λ _. a.same b p (inside b l));
    free = λ b q l. each_put (λ c x. x ≤ q → q < k + 1 → g q ≡ c → ⊥) last (g k) (k + 1) b h.0 (λ from to _. absurd (omega (arith, from, to)))
        (λ other from to e. go b q (inside b l) other from to e (ℕ_discrete q k));
  })
    where
      inside : (b : ℕ) → b < length (set last (g k) (k + 1)) → b < length last
      inside b l = subst (λ n. b < n) (length-set last (g k) (k + 1)) l

      go : (b q : ℕ) → b < length last → b ≢ g k → get_or last b 0 ≤ q → q < k + 1 → g q ≡ b → Dec (q ≡ k) → ⊥
      go b q l other from to e (yes d) = other (sym e ∙ ap g d)
      go b q l other from to e (no n) = a.free b q l from (omega (arith, to, n)) e
  last-in (inr h) = subst (AreLast g (k + 1)) (sym h.2) (record {
    low = λ b l. let m = a.low b l in omega (arith, m);
    same = a.same;
    free = λ b q l from to e. go b q l from to e (ℕ_discrete q k);
  })
    where
      go : (b q : ℕ) → b < length last → get_or last b 0 ≤ q → q < k + 1 → g q ≡ b → Dec (q ≡ k) → ⊥
      go b q l from to e (yes d) = let is : g k ≡ b = sym (ap g d) ∙ e in let o = h.0 in omega (arith, is, o, l)
      go b q l from to e (no n) = a.free b q l from (omega (arith, to, n)) e

  size-in : IsLinked last new (g k) (k + 1) r → length new ≡ buckets
  size-in (inl h) = ap (λ (z : List ℕ). length z) h.2 ∙ length-set last (g k) (k + 1) ∙ size
  size-in (inr h) = ap (λ (z : List ℕ). length z) h.2 ∙ size

  pub linked : IsLinked last new (g k) (k + 1) r → AreChained g buckets (k + 1) (before ++ r ∷ []) × AreLast g (k + 1) new × (length new ≡ buckets)
  linked is = (chained-in is, last-in is, size-in is)

pub none-chained : (g : ℕ → ℕ) (buckets : ℕ) → AreChained g buckets 0 []
none-chained g buckets = record {
  size = refl;
  low = λ i l. absurd (omega (arith, l));
  same = λ i p l _. absurd (omega (arith, l));
  free = λ i q l _ _ _ _. omega (arith, l);
}

pub none-last : (g : ℕ → ℕ) (buckets : ℕ) (last : List ℕ) → last ≡ replicate buckets 0 → length last ≡ buckets → AreLast g 0 last
none-last g buckets last is size = record {
  low = λ b l. let z = zero-at b l in omega (arith, z);
  same = λ b p l e. let z = zero-at b l in absurd (omega (arith, z, e));
  free = λ b q l from to e. omega (arith, to);
}
  where
    zero-at : (b : ℕ) → b < length last → get_or last b 0 ≡ 0
    zero-at b l = ap (λ z. get_or z b 0) is ∙ get_or-replicate buckets b 0 0 (subst (λ n. b < n) size l)

-- a chain was gone back so far: no row from here on up to the place has its list, and the row just before is in its bucket
pub record AreBehind (lists : List (Option (List Value))) (buckets : List ℕ) (at left : ℕ) : Type 0 where
  pub within : left ≤ at
  pub none : (q : ℕ) → left ≤ q → q < at → HaveOne lists q at → ⊥
  pub same : (p : ℕ) → left ≡ p + 1 → get_or buckets p 0 ≡ get_or buckets at 0

module _ (lists : List (Option (List Value))) (before : List ℕ) (c : AreChainedByLists lists before) (at : ℕ) (l : at < length lists) where
  abbrev g : ℕ → ℕ
  g i = get_or c.0 i 0

  there : (p : ℕ) → p ≤ at → p < length c.0
  there p m = let s = c.1.size in omega (arith, m, l, s)

  -- the bucket of a row that has one list with this one
  its : (q : ℕ) → HaveOne lists q at → g at < length c.0
  its q h = subst (λ n. g at < n) (sym c.1.size) (c.1.some at (h.0, h.2, h.2))

  pub behind-first : AreBehind lists c.0 at (get_or before at 0)
  behind-first = record {
    within = c.2.low at (there at (omega arith));
    none = λ q from to h. c.2.free at q (there at (omega arith)) (its q h) from to (c.1.one q at h);
    same = λ p e. c.2.same at p (there at (omega arith)) e;
  }

  pub behind-more : (left : ℕ) → AreBehind lists c.0 at left → (p : ℕ) → left ≡ p + 1 → (HaveOne lists p at → ⊥) → AreBehind lists c.0 at (get_or before p 0)
  behind-more left h p e differ = record {
    within = let m = c.2.low p lp in let w = h.within in omega (arith, m, w, e);
    none = λ q from to have. go q from to have (ℕ_discrete q p);
    same = λ s d. c.2.same p s lp d ∙ h.same p e;
  }
    where
      lp : p < length c.0
      lp = let w = h.within in there p (omega (arith, w, e))

      go : (q : ℕ) → get_or before p 0 ≤ q → q < at → HaveOne lists q at → Dec (q ≡ p) → ⊥
      go q from to have (yes d) = differ (subst (λ z. HaveOne lists z at) d have)
      go q from to have (no n) = pick (dec_lt q p)
        where
          pick : Dec (q < p) → ⊥
          pick (yes low) = c.2.free p q lp (subst (λ z. z < length c.0) (sym (h.same p e)) (its q have)) from low (c.1.one q at have ∙ sym (h.same p e))
          pick (no high) = h.none q (omega (arith, e, n, high)) to have
