-- Of the numbers that hit witnesses there are few that hit each of them: the greatest that hit one, each where no lesser one does.
use Rattle.std.proofs.Common.{◌≡◌, ◌<◌, ◌≤◌, ◌+◌, ◌⊎◌, inl, inr, ℕ, zero, suc, List, [], ◌∷◌, ◌++◌, length, length-append, get_or, Option, Some, None, sym, ap, subst, arith, Contains}
use Rattle.std.proofs.lemmas.List.{get_or_append_left, get_or_push}
use Rattle.std.proofs.lemmas.List.Elements.{Contains-append_left, Contains-append_right, Contains-get_or, Contains-push_cases}
use Rattle.std.proofs.lemmas.Option.{same_Some}
use native.Mathlib.Decide.{ℕ_discrete}
use Rattle.cqa_value.proofs.Words.{cases_le, cases_next, dec_both, dec_one_below, mem-head, mem-nil}
use Rattle.cqa_model.proofs.Classic.{choose, dec_some}
use Rattle.cqa_model.proofs.Values.{dec_by, dec_not}
use Rattle.existence_law.proofs.Extremes.{first_among}
use Rattle.row_lists.proofs.Numbers.{passing, passing-has, passing-holds}
use Rattle.rows_against.specs.Fewest.{HasHit, IsLastHit, IsHitOf, IsNeeded, AreFewest}

dec_is : (o : Option ℕ) (n : ℕ) → Dec (o ≡ Some n)
dec_is None n = no (λ e. cc e)
dec_is (Some m) n = dec_by (λ e. ap Some e) (λ e. same_Some m n e) (ℕ_discrete m n)

-- each witness is hit by a number below one
module _ (hits : List (List (Option ℕ))) (count numbers : ℕ) (below : (i : ℕ) → i < count → (k : ℕ) → HasHit hits i k → k < numbers) (some : (i : ℕ) → i < count → (k : ℕ) × HasHit hits i k) where
  dec_hit : (i k : ℕ) → Dec (HasHit hits i k)
  dec_hit i k = dec_one_below (λ F. get_or (get_or hits F []) i None ≡ Some k) (λ F. dec_is (get_or (get_or hits F []) i None) k) (length hits)

  dec_hit_of : (kept : List ℕ) (i : ℕ) → Dec (IsHitOf hits kept i)
  dec_hit_of kept i = dec_by (λ h. (h.0, h.2, h.1)) (λ h. (h.0, h.2, h.1)) (dec_some (λ k. HasHit hits i k) (λ k. dec_hit i k) kept)

  last_hit : (i : ℕ) → i < count → (k : ℕ) × IsLastHit hits i k
  last_hit i l =
      let has : (k : ℕ) → HasHit hits i k → Contains (passing (dec_hit i) 0 numbers) k = λ k h. (let b = below i l k h in passing-has (dec_hit i) 0 numbers k (omega arith) (omega (arith, b)) h) in
      let k = some i l in
      let m = first_among (λ x y. y ≤ x) (λ x. omega arith) either (λ x y z a b. omega (arith, a, b)) (passing (dec_hit i) 0 numbers) k.0 (has k.0 k.1) in
      (m.0, ((passing-holds (dec_hit i) 0 numbers m.0 m.1.0).0, λ other h. m.1.1 other (has other h)))
    where
      either : (x y : ℕ) → (y ≤ x) ⊎ (x ≤ y)
      either x y = elim (cases_le y x) [ inl l ↦ inl l | inr l ↦ inr (omega (arith, l)) ]

  lasts : (lasts : List ℕ) × (length lasts ≡ count) × ((i : ℕ) → i < count → IsLastHit hits i (get_or lasts i 0))
  lasts = choose 0 count (λ i k. IsLastHit hits i k) last_hit

  abbrev last : ℕ → ℕ
  last i = get_or lasts.0 i 0

  -- ---- numbers below one, by ascending numbers

  record AreTo (n : ℕ) (kept : List ℕ) : Type 0 where
    rising : (i j : ℕ) → i < j → j < length kept → get_or kept i 0 < get_or kept j 0
    low : (k : ℕ) → Contains kept k → k < n
    hit : (i : ℕ) → i < count → last i < n → IsHitOf hits kept i
    needed : (k : ℕ) → Contains kept k → IsNeeded hits count kept k

  none_yet : AreTo 0 []
  none_yet = record {
    rising = λ i j l u. absurd (omega (arith, u));
    low = λ k m. absurd (mem-nil k m);
    hit = λ i l u. absurd (omega (arith, u));
    needed = λ k m. absurd (mem-nil k m);
  }

  module _ (n : ℕ) (kept : List ℕ) (t : AreTo n kept) where
    -- each witness whose greatest number it is is hit
    not_taken : ((i : ℕ) → i < count → last i ≡ n → IsHitOf hits kept i) → AreTo (n + 1) kept
    not_taken all = record {
      rising = t.rising;
      low = λ k m. (let l = t.low k m in omega (arith, l));
      hit = λ i l u. elim (cases_next (last i) n u) [ inl v ↦ t.hit i l v | inr e ↦ all i l e ];
      needed = t.needed;
    }

    -- one isn't
    module _ (i : ℕ) (there : i < count) (its : last i ≡ n) (free : IsHitOf hits kept i → ⊥) where
      abbrev more : List ℕ
      more = kept ++ n ∷ []

      old : (k : ℕ) → Contains kept k → Contains more k
      old k m = Contains-append_left kept (n ∷ []) k m

      new : Contains more n
      new = Contains-append_right kept (n ∷ []) n (mem-head n [])

      rises : (a b : ℕ) → a < b → b < length more → get_or more a 0 < get_or more b 0
      rises a b l u = go (cases_next b (length kept) (let s = length-append kept (n ∷ []) in omega (arith, u, s)))
        where
          go : (b < length kept) ⊎ (b ≡ length kept) → get_or more a 0 < get_or more b 0
          go (inl v) =
              let x = get_or_append_left kept (n ∷ []) 0 a (omega (arith, l, v)) in
              let y = get_or_append_left kept (n ∷ []) 0 b v in
              let h = t.rising a b l v in
              omega (arith, x, y, h)
          go (inr e) =
              let x = get_or_append_left kept (n ∷ []) 0 a (omega (arith, l, e)) in
              let y = get_or_push kept n 0 b (sym e) in
              let h = t.low (get_or kept a 0) (Contains-get_or kept a 0 (omega (arith, l, e))) in
              omega (arith, x, y, h)

      needed_old : (k : ℕ) → Contains kept k → IsNeeded hits count kept k → IsNeeded hits count more k
      needed_old k m needs = record {
        witness = needs.witness;
        there = needs.there;
        last = needs.last;
        alone = λ other h c. elim (Contains-push_cases kept n other c) [
          | inl o ↦ needs.alone other h o
          | inr e ↦ absurd (let up = needs.last.1 other h in let l = t.low k m in omega (arith, up, l, e))
        ];
      }

      needed_new : IsNeeded hits count more n
      needed_new = record {
        witness = i;
        there = there;
        last = subst (IsLastHit hits i) its (lasts.2 i there);
        alone = λ other h c. elim (Contains-push_cases kept n other c) [ inl o ↦ absurd (free (other, h, o)) | inr e ↦ sym e ];
      }

      taken : AreTo (n + 1) more
      taken = record {
        rising = rises;
        low = λ k m. elim (Contains-push_cases kept n k m) [ inl o ↦ (let l = t.low k o in omega (arith, l)) | inr e ↦ omega (arith, e) ];
        hit = λ j l u. elim (cases_next (last j) n u) [
          | inl v ↦ (let h = t.hit j l v in (h.0, h.1, old h.0 h.2))
          | inr e ↦ (n, subst (HasHit hits j) e (lasts.2 j l).0, new)
        ];
        needed = λ k m. elim (Contains-push_cases kept n k m) [ inl o ↦ needed_old k o (t.needed k o) | inr e ↦ subst (IsNeeded hits count more) e needed_new ];
      }

    next : (found : List ℕ) × AreTo (n + 1) found
    next = go (dec_one_below (λ i. (last i ≡ n) × (IsHitOf hits kept i → ⊥)) (λ i. dec_both (ℕ_discrete (last i) n) (dec_not (dec_hit_of kept i))) count)
      where
        go : Dec ((i : ℕ) × (i < count) × ((last i ≡ n) × (IsHitOf hits kept i → ⊥))) → (found : List ℕ) × AreTo (n + 1) found
        go (yes (i, l, h)) = (kept ++ n ∷ [], taken i l h.0 h.1)
        go (no f) = (kept, not_taken (λ i l e. elim (dec_hit_of kept i) [ yes h ↦ h | no none ↦ absurd (f (i, l, (e, none))) ]))

  up_to : (n : ℕ) → (found : List ℕ) × AreTo n found
  up_to zero = ([], none_yet)
  up_to (suc n) = let r = up_to n in subst (λ m. (found : List ℕ) × AreTo m found) (let e : n + 1 ≡ suc n = omega arith in e) (next n r.0 r.1)

  pub fewest : (found : List ℕ) × AreFewest hits count found
  fewest =
      let r = up_to numbers in
      (r.0, record { rising = r.1.rising; hit = λ i l. r.1.hit i l (below i l (last i) (lasts.2 i l).0); needed = r.1.needed })
