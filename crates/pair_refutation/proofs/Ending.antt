-- The ends of one more row's edge.
use Rattle.std.proofs.Common.{◌≡◌, ◌≢◌, ℕ, ◌+◌, ◌<◌, ◌≤◌, ◌⊎◌, inl, inr, List, length, replicate, set, ap, sym, ◌∙◌, subst, arith, Some, None, slice_index, length-set}
use native.Mathlib.Decide.{ℕ_discrete}
use Rattle.std.proofs.lemmas.List.{get_or-set_same, get_or-set_other, length-replicate}
use Rattle.std.proofs.lemmas.Option.{same_Some, none-some}
use Rattle.weak_pairs.specs.declared.graph.Ends.{Ends}
use Rattle.weak_pairs.specs.Peeling.{IsBlockNumber, In, ends_of, AreLaidOut}
use Rattle.weak_pairs.specs.Layout.{AreRows}
use Rattle.pair_refutation.specs.Edges.{AddsEnd, AreEndsSoFar, IsTwoEnded}
use Rattle.pair_refutation.proofs.Chaining.{blank}

abbrev no-end : Ends
no-end = record { left = None; right = None }

pub ends-none : (start edge : List ℕ) (ends : List Ends) (count : ℕ) → ends ≡ replicate count no-end → AreEndsSoFar start edge ends count 0 0
ends-none start edge ends count n = record {
  size = ap (λ (z : List Ends). length z) n ∙ length-replicate count no-end;
  occurs = λ u j bu hj w. elim w [ inl l ↦ absurd (omega (arith, l)) | inr h ↦ (let l = h.1 in absurd (omega (arith, l))) ];
  left = λ e u h. absurd (none-some u (sym (ap (λ (z : Ends). z.left) (none e)) ∙ h));
  right = λ e u h. absurd (none-some u (sym (ap (λ (z : Ends). z.right) (none e)) ∙ h));
  full = λ e u h k. none-some u (sym (ap (λ (z : Ends). z.right) (none e)) ∙ h);
  apart = λ e u h k. none-some u (sym (ap (λ (z : Ends). z.left) (none e)) ∙ h);
}
  where
    none : (e : ℕ) → ends_of ends e ≡ no-end
    none e = ap (λ z. ends_of z e) n ∙ blank count e no-end

module _ (start edge : List ℕ) (count : ℕ) (rows : AreRows start edge count) (two : IsTwoEnded start edge) where
  module _ (ends : List Ends) (v i : ℕ) (so : AreEndsSoFar start edge ends count v i) (bv : IsBlockNumber start v) (hi : In start v i) (added : Ends) (adds : AddsEnd (ends_of ends (slice_index edge i)) v added) where
    abbrev ei : ℕ
    ei = slice_index edge i

    abbrev next : List Ends
    next = set ends ei added

    small : ei < length ends
    small = let w = rows.within v bv in let h : i < slice_index start (v + 1) = hi.1 in let s = rows.small i (omega (arith, w, h)) in let z = so.size in omega (arith, s, z)

    here : ends_of next ei ≡ added
    here = get_or-set_same ends ei added (no-end) small

    there : (e : ℕ) → e ≢ ei → ends_of next e ≡ ends_of ends e
    there e n = get_or-set_other ends ei e added (no-end) n

    -- the block is an end now
    has-v : (added.left ≡ Some v) ⊎ (added.right ≡ Some v)
    has-v = elim adds [
      | inl a ↦ inl a.1
      | inr b ↦ elim b [ inl s ↦ inl (ap (λ (z : Ends). z.left) s.1 ∙ s.0) | inr o ↦ inr o.4 ]
    ]

    -- and the ends that there were stay, since no edge has three
    keeps : (u : ℕ) → ((ends_of ends ei).left ≡ Some u) ⊎ ((ends_of ends ei).right ≡ Some u) → (added.left ≡ Some u) ⊎ (added.right ≡ Some u)
    keeps u (inl h) = elim adds [
      | inl a ↦ absurd (none-some u (sym a.0 ∙ h))
      | inr b ↦ elim b [ inl s ↦ inl (ap (λ (z : Ends). z.left) s.1 ∙ h) | inr o ↦ inl (o.3 ∙ (sym o.1 ∙ h)) ]
    ]
    keeps u (inr h) = elim adds [
      | inl a ↦ inr (a.2 ∙ h)
      | inr b ↦ elim b [
        | inl s ↦ inr (ap (λ (z : Ends). z.right) s.1 ∙ h)
        | inr o ↦ third o.0 o.1 o.2 o.4
      ]
    ]
      where
        third : (w : ℕ) → (ends_of ends ei).left ≡ Some w → w ≢ v → added.right ≡ Some v → (added.left ≡ Some u) ⊎ (added.right ≡ Some u)
        third w hw n r =
            let a = so.left ei w hw in
            let b = so.right ei u h in
            let ne : w ≢ u = (λ d. so.apart ei u (hw ∙ ap Some d) h) in
            elim (two w u v a.1.0 b.1.0 i a.0 b.0 bv a.1.1 b.1.1 hi a.1.2 b.1.2 ne) [
              | inl d ↦ absurd (n (sym d))
              | inr d ↦ inr (r ∙ ap Some d)
            ]

    occurs : (u j : ℕ) → IsBlockNumber start u → In start u j → (u < v) ⊎ ((u ≡ v) × (j < i + 1)) → Dec (slice_index edge j ≡ ei) → Dec (j ≡ i) →
        ((ends_of next (slice_index edge j)).left ≡ Some u) ⊎ ((ends_of next (slice_index edge j)).right ≡ Some u)
    occurs u j bu hj w (yes e) (no n) = subst (λ z. (z.left ≡ Some u) ⊎ (z.right ≡ Some u)) (sym (ap (λ z. ends_of next z) e ∙ here))
        (keeps u (subst (λ z. ((ends_of ends z).left ≡ Some u) ⊎ ((ends_of ends z).right ≡ Some u)) e (so.occurs u j bu hj (earlier w))))
      where
        earlier : (u < v) ⊎ ((u ≡ v) × (j < i + 1)) → (u < v) ⊎ ((u ≡ v) × (j < i))
        earlier (inl l) = inl l
        earlier (inr h) = let l = h.1 in inr (h.0, omega (arith, l, n))
    occurs u j bu hj w (yes e) (yes d) = elim w [
      | inl l ↦ (let hu : i < slice_index start (u + 1) = (let k = hj.1 in omega (arith, k, d)) in let hv : slice_index start v ≤ i = hi.0 in let r = rise u l in absurd (omega (arith, hu, hv, r)))
      | inr h ↦ subst (λ z. (z.left ≡ Some u) ⊎ (z.right ≡ Some u)) (sym (ap (λ z. ends_of next z) e ∙ here)) (subst (λ z. (added.left ≡ Some z) ⊎ (added.right ≡ Some z)) (sym h.0) has-v)
    ]
      where
        rise : (u : ℕ) → u < v → slice_index start (u + 1) ≤ slice_index start v
        rise u l = go (ℕ_discrete (u + 1) v)
          where
            go : Dec (u + 1 ≡ v) → slice_index start (u + 1) ≤ slice_index start v
            go (yes q) = let k = ap (λ z. slice_index start z) q in omega (arith, k)
            go (no m) = let k = rows.rising (u + 1) v (omega (arith, l, m)) (let b = bv in omega (arith, b)) in omega (arith, k)
    occurs u j bu hj w (no n) d = subst (λ z. (z.left ≡ Some u) ⊎ (z.right ≡ Some u)) (sym (there (slice_index edge j) n)) (so.occurs u j bu hj (earlier w))
      where
        earlier : (u < v) ⊎ ((u ≡ v) × (j < i + 1)) → (u < v) ⊎ ((u ≡ v) × (j < i))
        earlier (inl l) = inl l
        earlier (inr h) = let l = h.1 in inr (h.0, let ne : j ≢ i = (λ q. n (ap (λ z. slice_index edge z) q)) in omega (arith, l, ne))

    mine : (e : ℕ) → e ≡ ei → (u : ℕ) → v ≡ u → IsBlockNumber start u × ((j : ℕ) × In start u j × (slice_index edge j ≡ e))
    mine e d u q = subst (λ z. IsBlockNumber start z × ((j : ℕ) × In start z j × (slice_index edge j ≡ e))) q (bv, (i, hi, sym d))

    old-left : (e u : ℕ) → e ≡ ei → (ends_of ends ei).left ≡ Some u → IsBlockNumber start u × ((j : ℕ) × In start u j × (slice_index edge j ≡ e))
    old-left e u d h = so.left e u (ap (λ z. (ends_of ends z).left) d ∙ h)

    old-right : (e u : ℕ) → e ≡ ei → (ends_of ends ei).right ≡ Some u → IsBlockNumber start u × ((j : ℕ) × In start u j × (slice_index edge j ≡ e))
    old-right e u d h = so.right e u (ap (λ z. (ends_of ends z).right) d ∙ h)

    left : (e u : ℕ) → Dec (e ≡ ei) → (ends_of next e).left ≡ Some u → IsBlockNumber start u × ((j : ℕ) × In start u j × (slice_index edge j ≡ e))
    left e u (yes d) h = elim adds [
      | inl a ↦ mine e d u (same_Some v u (sym a.1 ∙ k))
      | inr b ↦ elim b [ inl s ↦ old-left e u d (sym (ap (λ (z : Ends). z.left) s.1) ∙ k) | inr o ↦ old-left e u d (o.1 ∙ (sym o.3 ∙ k)) ]
    ]
      where
        k : added.left ≡ Some u
        k = sym (ap (λ (z : Ends). z.left) (ap (λ z. ends_of next z) d ∙ here)) ∙ h
    left e u (no n) h = so.left e u (sym (ap (λ (z : Ends). z.left) (there e n)) ∙ h)

    right : (e u : ℕ) → Dec (e ≡ ei) → (ends_of next e).right ≡ Some u → IsBlockNumber start u × ((j : ℕ) × In start u j × (slice_index edge j ≡ e))
    right e u (yes d) h = elim adds [
      | inl a ↦ old-right e u d (sym a.2 ∙ k)
      | inr b ↦ elim b [ inl s ↦ old-right e u d (sym (ap (λ (z : Ends). z.right) s.1) ∙ k) | inr o ↦ mine e d u (same_Some v u (sym o.4 ∙ k)) ]
    ]
      where
        k : added.right ≡ Some u
        k = sym (ap (λ (z : Ends). z.right) (ap (λ z. ends_of next z) d ∙ here)) ∙ h
    right e u (no n) h = so.right e u (sym (ap (λ (z : Ends). z.right) (there e n)) ∙ h)

    apart : (e u : ℕ) → Dec (e ≡ ei) → (ends_of next e).left ≡ Some u → (ends_of next e).right ≡ Some u → ⊥
    apart e u (yes d) h h2 = elim adds [
      | inl a ↦ fresh u (sym a.1 ∙ k) (sym a.2 ∙ k2) a.0
      | inr b ↦ elim b [
        | inl s ↦ so.apart ei u (sym (ap (λ (z : Ends). z.left) s.1) ∙ k) (sym (ap (λ (z : Ends). z.right) s.1) ∙ k2)
        | inr o ↦ o.2 (same_Some o.0 u (sym o.3 ∙ k) ∙ sym (same_Some v u (sym o.4 ∙ k2)))
      ]
    ]
      where
        k : added.left ≡ Some u
        k = sym (ap (λ (z : Ends). z.left) (ap (λ z. ends_of next z) d ∙ here)) ∙ h

        k2 : added.right ≡ Some u
        k2 = sym (ap (λ (z : Ends). z.right) (ap (λ z. ends_of next z) d ∙ here)) ∙ h2

        fresh : (u : ℕ) → Some v ≡ Some u → (ends_of ends ei).right ≡ Some u → (ends_of ends ei).left ≡ None → ⊥
        fresh u q r none = so.full ei u r none
    apart e u (no n) h h2 = so.apart e u (sym (ap (λ (z : Ends). z.left) (there e n)) ∙ h) (sym (ap (λ (z : Ends). z.right) (there e n)) ∙ h2)

    full : (e u : ℕ) → Dec (e ≡ ei) → (ends_of next e).right ≡ Some u → (ends_of next e).left ≡ None → ⊥
    full e u (yes d) h none = elim adds [
      | inl a ↦ none-some v (sym k ∙ a.1)
      | inr b ↦ elim b [ inl s ↦ none-some v (sym k ∙ (ap (λ (z : Ends). z.left) s.1 ∙ s.0)) | inr o ↦ none-some o.0 (sym k ∙ o.3) ]
    ]
      where
        k : added.left ≡ None
        k = sym (ap (λ (z : Ends). z.left) (ap (λ z. ends_of next z) d ∙ here)) ∙ none
    full e u (no n) h none = so.full e u (sym (ap (λ (z : Ends). z.right) (there e n)) ∙ h) (sym (ap (λ (z : Ends). z.left) (there e n)) ∙ none)

    pub ends-more : AreEndsSoFar start edge next count v (i + 1)
    ends-more = record {
      size = length-set ends ei added ∙ so.size;
      occurs = λ u j bu hj w. occurs u j bu hj w (ℕ_discrete (slice_index edge j) ei) (ℕ_discrete j i);
      left = λ e u h. left e u (ℕ_discrete e ei) h;
      right = λ e u h. right e u (ℕ_discrete e ei) h;
      apart = λ e u h k. apart e u (ℕ_discrete e ei) h k;
      full = λ e u h k. full e u (ℕ_discrete e ei) h k;
    }

  pub laid-of : (ends : List Ends) (blocks : ℕ) → blocks + 1 ≡ length start → AreEndsSoFar start edge ends count blocks 0 → AreLaidOut start edge ends
  laid-of ends blocks long so = record {
    rising = rows.rising;
    within = rows.within;
    small = λ i l. let s = rows.small i l in let z = so.size in omega (arith, s, z);
    occurs = λ v i bv hi n. elim (so.occurs v i bv hi (inl (omega (arith, long, bv)))) [ inl l ↦ absurd (n l) | inr r ↦ r ];
    blocks = λ e v l h. elim h [ inl k ↦ (so.left e v k).0 | inr k ↦ (so.right e v k).0 ];
  }
