-- Numbers that are taken one after the other, by the greatest numbers that hit witnesses.
use Rattle.std.proofs.Common.{◌≡◌, ◌≢◌, ◌<◌, ◌≤◌, ◌+◌, ◌⊎◌, ◌↔◌, inl, inr, ℕ, zero, suc, Bool, true, false, true≢false, List, [], ◌∷◌, ◌++◌, length, length-append, length-set, get_or, get_or-set_same, get_or-set_other, set, replicate, Option, sym, refl, ◌∙◌, ap, subst, arith, Contains}
use Rattle.std.specs.List.Sorted.{IsNonDecreasingBy, IsPermutation}
use Rattle.std.proofs.lemmas.List.Sorted.{Contains-permutation, IsPermutation-sym}
use Rattle.std.proofs.lemmas.List.{get_or_append_left, get_or_push, length-replicate}
use Rattle.std.proofs.lemmas.List.Elements.{Contains-append_cases, Contains-append_left, Contains-append_right, Contains-get_or}
use native.Mathlib.Decide.{ℕ_discrete}
use Rattle.cqa_value.proofs.Words.{mem-head, mem-nil, mem-cases, member_place, cases_next}
use Rattle.rows_against.specs.declared.fewest.LastHit.{LastHit}
use Rattle.rows_against.specs.Fewest.{IsLastHit, AreLastHits, IsHitAmong, IsHitOf, IsNeeded, AreFewest}

abbrev pub none : LastHit
none = record { number = 0; witness = 0 }

-- what is taken for the witnesses before an index of their greatest numbers
pub record AreTaken (hits : List (List (Option ℕ))) (count numbers : ℕ) (lasts : List LastHit) (at : ℕ) (marks : List Bool) (kept : List ℕ) : Type 0 where
  pub size : length marks ≡ numbers
  pub marked : (n : ℕ) → (get_or marks n false ≡ true) ↔ Contains kept n
  pub rising : (i j : ℕ) → i < j → j < length kept → get_or kept i 0 < get_or kept j 0
  pub low : (n : ℕ) → Contains kept n → (k : ℕ) → at ≤ k → k < length lasts → n ≤ (get_or lasts k none).number
  pub hit : (k : ℕ) → k < at → IsHitOf hits kept (get_or lasts k none).witness
  pub needed : (n : ℕ) → Contains kept n → IsNeeded hits count kept n

blank : (numbers n : ℕ) → get_or (replicate numbers false) n false ≡ false
blank zero n = refl
blank (suc numbers) zero = refl
blank (suc numbers) (suc n) = blank numbers n

pub nothing_taken : (hits : List (List (Option ℕ))) (count numbers : ℕ) (lasts : List LastHit) (marks : List Bool) → marks ≡ replicate numbers false → AreTaken hits count numbers lasts 0 marks []
nothing_taken hits count numbers lasts marks clear = record {
  size = ap length clear ∙ length-replicate numbers false;
  marked = λ n. (λ e. absurd (true≢false (sym e ∙ ap (λ ms. get_or ms n false) clear ∙ blank numbers n)), λ m. absurd (mem-nil n m));
  rising = λ i j l u. absurd (omega (arith, u));
  low = λ n m. absurd (mem-nil n m);
  hit = λ k l. absurd (omega (arith, l));
  needed = λ n m. absurd (mem-nil n m);
}

module _ (hits : List (List (Option ℕ))) (count numbers : ℕ) (lasts : List LastHit) (at : ℕ) (marks : List Bool) (kept : List ℕ) (t : AreTaken hits count numbers lasts at marks kept)
    (there : at < length lasts) (last : LastHit) (is : get_or lasts at none ≡ last) where
  -- a witness that is hit takes no number
  pub taken_none : IsHitAmong hits marks last.witness → AreTaken hits count numbers lasts (at + 1) marks kept
  taken_none among = record {
    size = t.size;
    marked = t.marked;
    rising = t.rising;
    low = λ n m k l u. t.low n m k (omega (arith, l)) u;
    hit = λ k l. go k (cases_next k at l);
    needed = t.needed;
  }
    where
      go : (k : ℕ) → (k < at) ⊎ (k ≡ at) → IsHitOf hits kept (get_or lasts k none).witness
      go k (inl l) = t.hit k l
      go k (inr e) =
          let here : get_or lasts k none ≡ last = ap (λ i. get_or lasts i none) e ∙ is in
          subst (λ (x : LastHit). IsHitOf hits kept x.witness) (sym here) (among.0, among.1, (t.marked among.0).0 among.2)

  -- another takes the greatest number that hits it
  module _ (order : IsNonDecreasingBy (λ (x : LastHit). x.number) lasts) (its : last.witness < count) (greatest : IsLastHit hits last.witness last.number) (below : last.number < numbers)
      (free : IsHitAmong hits marks last.witness → ⊥) where
    abbrev m : ℕ
    m = last.number

    abbrev more : List ℕ
    more = kept ++ m ∷ []

    old : (n : ℕ) → Contains kept n → Contains more n
    old n k = Contains-append_left kept (m ∷ []) n k

    new : Contains more m
    new = Contains-append_right kept (m ∷ []) m (mem-head m [])

    cases : (n : ℕ) → Contains more n → Contains kept n ⊎ (m ≡ n)
    cases n k = elim (Contains-append_cases kept (m ∷ []) n k) [
      | inl a ↦ inl a
      | inr b ↦ elim (mem-cases n m [] b) [ inl e ↦ inr e | inr z ↦ absurd (mem-nil n z) ]
    ]

    absent : Contains kept m → ⊥
    absent k = free (m, greatest.0, (t.marked m).1 k)

    less : (n : ℕ) → Contains kept n → n < m
    less n k =
        let up : n ≤ m = subst (λ (x : LastHit). n ≤ x.number) is (t.low n k at (omega arith) there) in
        let ne : n ≢ m = λ e. absent (subst (Contains kept) e k) in
        omega (arith, up, ne)

    marks-long : m < length marks
    marks-long = let s = t.size in omega (arith, s, below)

    marked' : (n : ℕ) → (get_or (set marks m true) n false ≡ true) ↔ Contains more n
    marked' n = go (ℕ_discrete n m)
      where
        go : Dec (n ≡ m) → (get_or (set marks m true) n false ≡ true) ↔ Contains more n
        go (yes e) = (λ h. subst (Contains more) (sym e) new, λ h. subst (λ i. get_or (set marks m true) i false ≡ true) (sym e) (let l = marks-long in rw get_or-set_same))
        go (no ne) = (
          λ h. old n ((t.marked n).0 (sym (let f : n ≢ m = ne in rw get_or-set_other) ∙ h)),
          λ h. elim (cases n h) [ inl k ↦ ((let f : n ≢ m = ne in rw get_or-set_other) ∙ (t.marked n).1 k) | inr e ↦ absurd (ne (sym e)) ],
        )

    rising' : (i j : ℕ) → i < j → j < length more → get_or more i 0 < get_or more j 0
    rising' i j l u = go (cases_next j (length kept) (let s = length-append kept (m ∷ []) in omega (arith, u, s)))
      where
        go : (j < length kept) ⊎ (j ≡ length kept) → get_or more i 0 < get_or more j 0
        go (inl v) =
            let a = get_or_append_left kept (m ∷ []) 0 i (omega (arith, l, v)) in
            let b = get_or_append_left kept (m ∷ []) 0 j v in
            let h = t.rising i j l v in
            omega (arith, a, b, h)
        go (inr e) =
            let a = get_or_append_left kept (m ∷ []) 0 i (omega (arith, l, e)) in
            let b = get_or_push kept m 0 j (sym e) in
            let h = less (get_or kept i 0) (Contains-get_or kept i 0 (omega (arith, l, e))) in
            omega (arith, a, b, h)

    low' : (n : ℕ) → Contains more n → (k : ℕ) → at + 1 ≤ k → k < length lasts → n ≤ (get_or lasts k none).number
    low' n h k l u = elim (cases n h) [
      | inl o ↦ t.low n o k (omega (arith, l)) u
      | inr e ↦ (let up : (get_or lasts at none).number ≤ (get_or lasts k none).number = order at k none (omega (arith, l)) u in
          let here : (get_or lasts at none).number ≡ m = ap (λ (x : LastHit). x.number) is in
          omega (arith, up, here, e))
    ]

    hit' : (k : ℕ) → k < at + 1 → IsHitOf hits more (get_or lasts k none).witness
    hit' k l = go (cases_next k at l)
      where
        go : (k < at) ⊎ (k ≡ at) → IsHitOf hits more (get_or lasts k none).witness
        go (inl v) = let h = t.hit k v in (h.0, h.1, old h.0 h.2)
        go (inr e) =
            let here : get_or lasts k none ≡ last = ap (λ i. get_or lasts i none) e ∙ is in
            subst (λ (x : LastHit). IsHitOf hits more x.witness) (sym here) (m, greatest.0, new)

    needed' : (n : ℕ) → Contains more n → IsNeeded hits count more n
    needed' n h = elim (cases n h) [ inl o ↦ before n o (t.needed n o) | inr e ↦ subst (IsNeeded hits count more) e own ]
      where
        own : IsNeeded hits count more m
        own = record {
          witness = last.witness;
          there = its;
          last = greatest;
          alone = λ other hit k. elim (cases other k) [ inl o ↦ absurd (free (other, hit, (t.marked other).1 o)) | inr e ↦ sym e ];
        }

        before : (n : ℕ) → Contains kept n → IsNeeded hits count kept n → IsNeeded hits count more n
        before n o needs = record {
          witness = needs.witness;
          there = needs.there;
          last = needs.last;
          alone = λ other hit k. elim (cases other k) [
            | inl a ↦ needs.alone other hit a
            | inr e ↦ absurd (let up = needs.last.1 other hit in let l = less n o in omega (arith, up, l, e))
          ];
        }

    pub taken_one : AreTaken hits count numbers lasts (at + 1) (set marks m true) more
    taken_one = record {
      size = length-set marks m true ∙ t.size;
      marked = marked';
      rising = rising';
      low = low';
      hit = hit';
      needed = needed';
    }

pub all_taken : (hits : List (List (Option ℕ))) (count numbers : ℕ) (lasts : List LastHit) (at : ℕ) (marks : List Bool) (kept : List ℕ) → AreTaken hits count numbers lasts at marks kept → length lasts ≤ at →
    AreLastHits hits count lasts → AreFewest hits count kept
all_taken hits count numbers lasts at marks kept t end all = record {
  rising = t.rising;
  hit = λ witness l.
      let a = all.every witness l in
      let k = member_place lasts a.0 none a.1 in
      let there = k.1 in
      let h = t.hit k.0 (omega (arith, there, end)) in
      subst (λ n. IsHitOf hits kept n) (ap (λ (x : LastHit). x.witness) k.2 ∙ a.2) h;
  needed = t.needed;
}

-- the witnesses so far and one more
pub one_more : (hits : List (List (Option ℕ))) (at : ℕ) (lasts : List LastHit) (last : LastHit) → AreLastHits hits at lasts → last.witness ≡ at → IsLastHit hits last.witness last.number → AreLastHits hits (at + 1) (lasts ++ last ∷ [])
one_more hits at lasts last t its greatest = record {
  each = λ x m. elim (Contains-append_cases lasts (last ∷ []) x m) [
    | inl k ↦ (let h = t.each x k in let l = h.0 in (omega (arith, l), h.1))
    | inr k ↦ elim (mem-cases x last [] k) [
      | inl e ↦ subst (λ (y : LastHit). (y.witness < at + 1) × IsLastHit hits y.witness y.number) e (omega (arith, its), greatest)
      | inr z ↦ absurd (mem-nil x z)
    ]
  ];
  every = λ witness l. go witness (cases_next witness at l);
}
  where
    go : (witness : ℕ) → (witness < at) ⊎ (witness ≡ at) → (x : LastHit) × Contains (lasts ++ last ∷ []) x × (x.witness ≡ witness)
    go witness (inl l) = let h = t.every witness l in (h.0, Contains-append_left lasts (last ∷ []) h.0 h.1, h.2)
    go witness (inr e) = (last, Contains-append_right lasts (last ∷ []) last (mem-head last []), its ∙ sym e)

-- in another order
pub reordered : (hits : List (List (Option ℕ))) (count : ℕ) (lasts others : List LastHit) → IsPermutation lasts others → AreLastHits hits count lasts → AreLastHits hits count others
reordered hits count lasts others same t = record {
  each = λ x m. t.each x (Contains-permutation others lasts x (IsPermutation-sym lasts others same) m);
  every = λ witness l. let h = t.every witness l in (h.0, Contains-permutation lasts others h.0 same h.1, h.2);
}
