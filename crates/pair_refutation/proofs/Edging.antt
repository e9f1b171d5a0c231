-- The edges of variables, pair after pair.
use Rattle.std.proofs.Common.{◌≡◌, ◌≢◌, ℕ, ◌+◌, ◌<◌, ◌≤◌, ◌⊎◌, inl, inr, List, length, set, refl, ap, sym, ◌∙◌, subst, arith, Contains, slice_index, length-set}
use native.Mathlib.Decide.{ℕ_discrete}
use Rattle.std.proofs.lemmas.List.{get_or-set_same, get_or-set_other, get_or_default}
use Rattle.cqa_model.proofs.Classic.{dec_some, dec_or}
use Rattle.pair_refutation.specs.declared.graph.Pair.{Pair}
use Rattle.pair_refutation.specs.Graph.{Meet, AreAdjacent, ArePaired}
use Rattle.pair_refutation.specs.Edges.{no_pair, pair_at, IsPairSeen, AreOwn, AreLeast, AreLeft, AreVarEdges}

pair-of : (p : Pair) (x y : ℕ) → p.left ≡ x → p.right ≡ y → p ≡ (record { left = x; right = y })
pair-of p x y e f = subst (λ z. p ≡ (record { left = z; right = y })) e (subst (λ z. p ≡ (record { left = p.left; right = z })) f refl)

pub meet-at : (pairs : List Pair) (t : ℕ) → t < length pairs → Meet pairs (pair_at pairs t).left (pair_at pairs t).right
meet-at pairs t l = (t, l, get_or_default pairs t (pair_at pairs t) no_pair l)

pub seen-meet : (pairs : List Pair) (k x y : ℕ) → IsPairSeen pairs k x y → Meet pairs x y
seen-meet pairs k x y (t, lk, l, e, f) = (t, l, get_or_default pairs t (record { left = x; right = y }) no_pair l ∙ pair-of (pair_at pairs t) x y e f)

pub meet-seen : (pairs : List Pair) (x y : ℕ) → Meet pairs x y → IsPairSeen pairs (length pairs) x y
meet-seen pairs x y (t, l, e) =
    let is : pair_at pairs t ≡ (record { left = x; right = y }) = get_or_default pairs t no_pair (record { left = x; right = y }) l ∙ e in
    (t, l, l, ap (λ (p : Pair). p.left) is, ap (λ (p : Pair). p.right) is)

pub seen-less : (pairs : List Pair) (k x y : ℕ) → IsPairSeen pairs k x y → IsPairSeen pairs (k + 1) x y
seen-less pairs k x y (t, lk, l, e, f) = (t, omega (arith, lk), l, e, f)

pub seen-last : (pairs : List Pair) (k : ℕ) → k < length pairs → IsPairSeen pairs (k + 1) (pair_at pairs k).left (pair_at pairs k).right
seen-last pairs k l = (k, omega arith, l, refl, refl)

pub seen-cases : (pairs : List Pair) (k x y : ℕ) → IsPairSeen pairs (k + 1) x y → IsPairSeen pairs k x y ⊎ (((pair_at pairs k).left ≡ x) × ((pair_at pairs k).right ≡ y))
seen-cases pairs k x y (t, lk, l, e, f) = go (ℕ_discrete t k)
  where
    go : Dec (t ≡ k) → IsPairSeen pairs k x y ⊎ (((pair_at pairs k).left ≡ x) × ((pair_at pairs k).right ≡ y))
    go (yes d) = inr (ap (λ z. (pair_at pairs z).left) (sym d) ∙ e, ap (λ z. (pair_at pairs z).right) (sym d) ∙ f)
    go (no n) = inl (t, omega (arith, lk, n), l, e, f)

pub none-seen : (pairs : List Pair) (x y : ℕ) → IsPairSeen pairs 0 x y → ⊥
none-seen pairs x y (t, lk, l, e, f) = omega (arith, lk)

module _ (pairs : List Pair) (vars : ℕ) (paired : ArePaired vars pairs) where
  pub least-none : (edge : List ℕ) → AreOwn vars edge → AreLeast pairs vars 0 edge
  least-none edge own = record {
    size = own.size;
    low = λ x y s. absurd (none-seen pairs x y s);
    from = λ y l. inl (own.own y l);
  }

  pub pair-below : (k : ℕ) → k < length pairs → ((pair_at pairs k).left < vars + 1) × ((pair_at pairs k).right < vars + 1)
  pair-below k lk =
      let m = meet-at pairs k lk in
      let s = paired.small (pair_at pairs k).left (pair_at pairs k).right m in
      let r = paired.rises (pair_at pairs k).left (pair_at pairs k).right m in
      (omega (arith, s, r), omega (arith, s))

  module _ (k : ℕ) (lk : k < length pairs) (edge : List ℕ) where
    abbrev x0 : ℕ
    x0 = (pair_at pairs k).left

    abbrev y0 : ℕ
    y0 = (pair_at pairs k).right

    meet0 : Meet pairs x0 y0
    meet0 = meet-at pairs k lk

    below : y0 < vars + 1
    below = let s = paired.small x0 y0 meet0 in omega (arith, s)

    left_below : x0 < vars + 1
    left_below = let s = paired.rises x0 y0 meet0 in let b = below in omega (arith, s, b)

    pub least-more : AreLeast pairs vars k edge → (new : List ℕ) → ((x0 < slice_index edge y0) × (new ≡ set edge y0 x0)) ⊎ ((slice_index edge y0 ≤ x0) × (new ≡ edge)) → AreLeast pairs vars (k + 1) new
    least-more a new (inl (lt, e)) = subst (λ z. AreLeast pairs vars (k + 1) z) (sym e) (record {
      size = length-set edge y0 x0 ∙ a.size;
      low = λ x y s. low x y s (ℕ_discrete y y0);
      from = λ y l. from y l (ℕ_discrete y y0);
    })
      where
        here : slice_index (set edge y0 x0) y0 ≡ x0
        here = get_or-set_same edge y0 x0 0 (let b = below in let z = a.size in omega (arith, b, z))

        there : (y : ℕ) → y ≢ y0 → slice_index (set edge y0 x0) y ≡ slice_index edge y
        there y n = get_or-set_other edge y0 y x0 0 n

        low : (x y : ℕ) → IsPairSeen pairs (k + 1) x y → Dec (y ≡ y0) → slice_index (set edge y0 x0) y ≤ x
        low x y s (yes d) = elim (seen-cases pairs k x y s) [
          | inl old ↦ let o = a.low x y old in let h = here in let m : slice_index edge y ≡ slice_index edge y0 = ap (λ z. slice_index edge z) d in
              let r : slice_index (set edge y0 x0) y ≡ slice_index (set edge y0 x0) y0 = ap (λ z. slice_index (set edge y0 x0) z) d in omega (arith, o, h, m, r, lt)
          | inr last ↦ let h = here in let r : slice_index (set edge y0 x0) y ≡ slice_index (set edge y0 x0) y0 = ap (λ z. slice_index (set edge y0 x0) z) d in let q = last.0 in omega (arith, h, r, q)
        ]
        low x y s (no n) = elim (seen-cases pairs k x y s) [
          | inl old ↦ let o = a.low x y old in let t = there y n in omega (arith, o, t)
          | inr last ↦ absurd (n (sym last.1))
        ]

        from : (y : ℕ) → y ≤ vars → Dec (y ≡ y0) → (slice_index (set edge y0 x0) y ≡ y) ⊎ IsPairSeen pairs (k + 1) (slice_index (set edge y0 x0) y) y
        from y l (yes d) = inr (subst (λ z. IsPairSeen pairs (k + 1) (slice_index (set edge y0 x0) z) z) (sym d) (subst (λ z. IsPairSeen pairs (k + 1) z y0) (sym here) (seen-last pairs k lk)))
        from y l (no n) = elim (a.from y l) [
          | inl e ↦ inl (there y n ∙ e)
          | inr s ↦ inr (subst (λ z. IsPairSeen pairs (k + 1) z y) (sym (there y n)) (seen-less pairs k (slice_index edge y) y s))
        ]
    least-more a new (inr (le, e)) = subst (λ z. AreLeast pairs vars (k + 1) z) (sym e) (record {
      size = a.size;
      low = λ x y s. elim (seen-cases pairs k x y s) [
        | inl old ↦ a.low x y old
        | inr last ↦ let p = last.0 in let m : slice_index edge y ≡ slice_index edge y0 = ap (λ z. slice_index edge z) (sym last.1) in omega (arith, p, m, le)
      ];
      from = λ y l. elim (a.from y l) [
        | inl e ↦ inl e
        | inr s ↦ inr (seen-less pairs k (slice_index edge y) y s)
      ];
    })

  module _ (least : List ℕ) (a : AreLeast pairs vars (length pairs) least) where
    pub least-meets : (x y : ℕ) → Meet pairs x y → Meet pairs (slice_index least y) y
    least-meets x y m = elim (a.from y (paired.small x y m)) [
      | inl e ↦ let low = a.low x y (meet-seen pairs x y m) in let r = paired.rises x y m in absurd (omega (arith, low, r, e))
      | inr s ↦ seen-meet pairs (length pairs) (slice_index least y) y s
    ]

    least-le : (x y t : ℕ) → Meet pairs x y → Meet pairs x t → slice_index least t ≤ slice_index least y
    least-le x y t m n = a.low (slice_index least y) t (meet-seen pairs (slice_index least y) t (paired.square x y (slice_index least y) t m (least-meets x y m) n))

    pub same-least : (x y t : ℕ) → Meet pairs x y → Meet pairs x t → slice_index least y ≡ slice_index least t
    same-least x y t m n = let p = least-le x y t m n in let q = least-le x t y n m in omega (arith, p, q)

    pub left-none : AreLeft pairs vars 0 least least
    left-none = record {
      size = a.size;
      right = λ x y m. refl;
      left = λ x y s. absurd (none-seen pairs x y s);
      rest = λ z n. refl;
    }

    module _ (k : ℕ) (lk : k < length pairs) (edge : List ℕ) (f : AreLeft pairs vars k least edge) where
      abbrev xk : ℕ
      xk = (pair_at pairs k).left

      abbrev yk : ℕ
      yk = (pair_at pairs k).right

      metk : Meet pairs xk yk
      metk = meet-at pairs k lk

      abbrev lefts : List ℕ
      lefts = set edge xk (slice_index edge yk)

      left-here : slice_index lefts xk ≡ slice_index least yk
      left-here = get_or-set_same edge xk (slice_index edge yk) 0 (let b = left_below k lk edge in let z = f.size in omega (arith, b, z)) ∙ f.right xk yk metk

      left-there : (y : ℕ) → y ≢ xk → slice_index lefts y ≡ slice_index edge y
      left-there y n = get_or-set_other edge xk y (slice_index edge yk) 0 n

      left-at : (x y : ℕ) → IsPairSeen pairs (k + 1) x y → Dec (x ≡ xk) → slice_index lefts x ≡ slice_index least y
      left-at x y s (yes d) = ap (λ z. slice_index lefts z) d ∙ (left-here ∙ same-least xk yk y metk (subst (λ z. Meet pairs z y) d (seen-meet pairs (k + 1) x y s)))
      left-at x y s (no n) = elim (seen-cases pairs k x y s) [
        | inl old ↦ left-there x n ∙ f.left x y old
        | inr last ↦ absurd (n (sym last.0))
      ]

      pub left-more : AreLeft pairs vars (k + 1) least lefts
      left-more = record {
        size = length-set edge xk (slice_index edge yk) ∙ f.size;
        right = λ x y m. left-there y (λ d. paired.sides y yk x (subst (λ z. Meet pairs z yk) (sym d) metk) m) ∙ f.right x y m;
        left = λ x y s. left-at x y s (ℕ_discrete x xk);
        rest = λ z n. left-there z (λ d. n yk (subst (λ u. Meet pairs u yk) (sym d) metk)) ∙ f.rest z n;
      }

    pub var-edges : (edge : List ℕ) → AreLeft pairs vars (length pairs) least edge → AreVarEdges pairs vars edge
    var-edges edge f = record {
      size = f.size;
      same = λ x y m. f.left x y (meet-seen pairs x y m) ∙ sym (f.right x y m);
      meets = λ x y m. subst (λ z. Meet pairs z y) (sym (f.right x y m)) (least-meets x y m);
      own = λ z l n. f.rest z (λ y m. n y (inl m)) ∙ elim (a.from z l) [
        | inl e ↦ e
        | inr s ↦ absurd (n (slice_index least z) (inr (seen-meet pairs (length pairs) (slice_index least z) z s)))
      ];
    }

-- whether a variable meets another
pub dec-adjacent : (pairs : List Pair) (z : ℕ) → Dec ((y : ℕ) × AreAdjacent pairs z y)
dec-adjacent pairs z = go (dec_some (λ (p : Pair). (p.left ≡ z) ⊎ (p.right ≡ z)) (λ p. dec_or (ℕ_discrete p.left z) (ℕ_discrete p.right z)) pairs)
  where
    of : (p : Pair) → Contains pairs p → (p.left ≡ z) ⊎ (p.right ≡ z) → (y : ℕ) × AreAdjacent pairs z y
    of p m (inl e) = (p.right, inl (subst (λ q. Contains pairs q) (pair-of p z p.right e refl) m))
    of p m (inr e) = (p.left, inr (subst (λ q. Contains pairs q) (pair-of p p.left z refl e) m))

    to : (y : ℕ) → AreAdjacent pairs z y → (p : Pair) × Contains pairs p × ((p.left ≡ z) ⊎ (p.right ≡ z))
    to y (inl m) = (record { left = z; right = y }, m, inl refl)
    to y (inr m) = (record { left = y; right = z }, m, inr refl)

    go : Dec ((p : Pair) × Contains pairs p × ((p.left ≡ z) ⊎ (p.right ≡ z))) → Dec ((y : ℕ) × AreAdjacent pairs z y)
    go (yes h) = yes (of h.0 h.1 h.2)
    go (no n) = no (λ h. n (to h.0 h.1))
