-- Loose rows among the rows of witnesses, by their places.
use Rattle.std.proofs.Common.{◌≡◌, ℕ, ◌<◌, ◌≤◌, ◌+◌, ◌-◌, ◌⊎◌, inl, inr, List, [], ◌∷◌, ◌++◌, length, get_or, set, slice_get, Some, sym, ◌∙◌, ap, subst, arith, Contains, Bool, true, false, true≢false, get_or-set_same, get_or-set_other}
use native.Mathlib.Decide.{ℕ_discrete}
use Rattle.std.specs.Bool.{IsTrue}
use Rattle.std.proofs.lemmas.Option.{get_or_from_slice_get}
use Rattle.std.proofs.lemmas.List.{get_or_append_left, get_or_push}
use Rattle.cqa_value.specs.declared.value.Value.{Value}
use Rattle.cqa_value.proofs.Words.{cases_le, cases_next}
use Rattle.cqa_model.specs.Repairs.{SharesKey}
use Rattle.cqa_model.proofs.Repairs.{shares-trans}
use Rattle.row_lists.specs.Runs.{AreRowPlaces}
use Rattle.row_lists.specs.Loose.{HasFreePlace}
use Rattle.row_lists.proofs.Numbers.{place_of}
use Rattle.row_lists.proofs.Columns.{places-up}

-- what is known behind the first places, where one goes up
pub record IsBelow (key : List ℕ) (rows : List (List Value)) (places : List ℕ) (n next : ℕ) (last : Bool) : Type 0 where
  pub below : (i : ℕ) → i < n → get_or places i 0 < next
  pub tight : (p : ℕ) → ((i : ℕ) → i < n → get_or places i 0 ≤ p) → next ≤ p + 1
  pub loose : last ≡ true → HasFreePlace key rows places (next - 1)

-- what is known before the last places, where one goes down
pub record IsAbove (key : List ℕ) (rows : List (List Value)) (places : List ℕ) (n end : ℕ) (last : Bool) : Type 0 where
  pub within : end ≤ length rows
  pub above : (i : ℕ) → n ≤ i → i < length places → end ≤ get_or places i 0
  pub tight : (p : ℕ) → p < length rows → ((i : ℕ) → n ≤ i → i < length places → p ≤ get_or places i 0) → p ≤ end
  pub loose : last ≡ true → HasFreePlace key rows places end

module _ (key : List ℕ) (rows : List (List Value)) (places : List ℕ) (h : AreRowPlaces rows places) where
  abbrev at : ℕ → ℕ
  at i = get_or places i 0

  abbrev Shares : ℕ → ℕ → Type 0
  Shares p r = SharesKey key (get_or rows p []) (get_or rows r [])

  -- no place is between two that follow each other
  between : (n f : ℕ) → ((i : ℕ) → i < n → at i < f) → ((i : ℕ) → n ≤ i → i < length places → f < at i) → Contains places f → ⊥
  between n f lower upper m = go (place_of places f m)
    where
      go : ((i : ℕ) × (i < length places) × (slice_get places i ≡ Some f)) → ⊥
      go (i, l, g) = cases (cases_le n i)
        where
          e : at i ≡ f
          e = get_or_from_slice_get places i f 0 g

          cases : (n ≤ i) ⊎ (i < n) → ⊥
          cases (inl u) = let b = upper i u l in let eq = e in absurd (omega (arith, b, eq))
          cases (inr u) = let b = lower i u in let eq = e in absurd (omega (arith, b, eq))

  passes : (p f : ℕ) → Shares p f → HasFreePlace key rows places f → HasFreePlace key rows places p
  passes p f s g = record {
    free = g.free;
    there = g.there;
    shares = shares-trans key (get_or rows p []) (get_or rows f []) (get_or rows g.free []) s g.shares;
    apart = g.apart;
  }

  rises : (i j : ℕ) → i ≤ j → j < length places → at i ≤ at j
  rises = places-up rows places h

  inside : (i : ℕ) → i < length places → at i < length rows
  inside i l = h.there i l

  -- ---- up

  pub below-none : IsBelow key rows places 0 0 false
  below-none = record { below = λ i l. absurd (omega (arith, l)); tight = λ p f. omega arith; loose = λ e. absurd (true≢false (sym e)) }

  module _ (n next : ℕ) (last new : Bool) (l : n < length places) (b : IsBelow key rows places n next last) (again : at n < next → new ≡ last)
      (near : next ≤ at n → IsTrue new → (0 < at n) × ((next < at n) ⊎ IsTrue last) × Shares (at n) (at n - 1)) where
    free-before : 0 < at n → next < at n → Shares (at n) (at n - 1) → HasFreePlace key rows places (at n)
    free-before some apart s = record {
      free = at n - 1;
      there = let k = inside n l in omega (arith, k);
      shares = s;
      apart = between n (at n - 1) (λ i k. let u = b.below i k in omega (arith, u, apart)) (λ i k li. let u = rises n i k li in omega (arith, u, some));
    }

    pub loose-below : new ≡ true → HasFreePlace key rows places (at n)
    loose-below t = go (cases_le next (at n))
      where
        beside : 0 < at n → next ≤ at n → last ≡ true → Shares (at n) (at n - 1) → (at n ≤ next) ⊎ (next < at n) → HasFreePlace key rows places (at n)
        beside some u e s (inl v) =
            let same : next - 1 ≡ at n - 1 = omega (arith, u, v) in
            passes (at n) (at n - 1) s (subst (HasFreePlace key rows places) same (b.loose e))
        beside some u e s (inr v) = free-before some v s

        from : next ≤ at n → (0 < at n) × ((next < at n) ⊎ IsTrue last) × Shares (at n) (at n - 1) → HasFreePlace key rows places (at n)
        from u (some, inl v, s) = free-before some v s
        from u (some, inr e, s) = beside some u e s (cases_le (at n) next)

        go : (next ≤ at n) ⊎ (at n < next) → HasFreePlace key rows places (at n)
        go (inl u) = from u (near u t)
        go (inr u) =
            let v = b.tight (at n) (λ i k. rises i n (omega (arith, k)) l) in
            let same : next - 1 ≡ at n = omega (arith, u, v) in
            subst (HasFreePlace key rows places) same (b.loose (sym (again u) ∙ t))

    pub below-more : IsBelow key rows places (n + 1) (at n + 1) new
    below-more = record {
      below = λ i k. let u = rises i n (omega (arith, k)) l in omega (arith, u);
      tight = λ p f. let u = f n (omega arith) in omega (arith, u);
      loose = λ t. let same : at n ≡ at n + 1 - 1 = omega arith in subst (HasFreePlace key rows places) same (loose-below t);
    }

  -- ---- down

  pub above-none : IsAbove key rows places (length places) (length rows) false
  above-none = record {
    within = omega arith;
    above = λ i k li. absurd (omega (arith, k, li));
    tight = λ p lp f. omega (arith, lp);
    loose = λ e. absurd (true≢false (sym e));
  }

  module _ (n m end : ℕ) (last new : Bool) (l : n < length places) (next : m ≡ n + 1) (b : IsAbove key rows places m end last) (again : end ≤ at n → new ≡ last)
      (near : at n < end → IsTrue new → (at n + 1 < length rows) × ((at n + 1 < end) ⊎ IsTrue last) × Shares (at n) (at n + 1)) where
    free-behind : at n + 1 < length rows → at n + 1 < end → Shares (at n) (at n + 1) → HasFreePlace key rows places (at n)
    free-behind there apart s = record {
      free = at n + 1;
      there = there;
      shares = s;
      apart = between m (at n + 1) (λ i k. let u = rises i n (omega (arith, k, next)) l in omega (arith, u)) (λ i k li. let u = b.above i k li in omega (arith, u, apart));
    }

    pub loose-above : new ≡ true → HasFreePlace key rows places (at n)
    loose-above t = go (cases_le end (at n))
      where
        beside : at n + 1 < length rows → at n < end → last ≡ true → Shares (at n) (at n + 1) → (end ≤ at n + 1) ⊎ (at n + 1 < end) → HasFreePlace key rows places (at n)
        beside there u e s (inl v) =
            let same : end ≡ at n + 1 = omega (arith, u, v) in
            passes (at n) (at n + 1) s (subst (HasFreePlace key rows places) same (b.loose e))
        beside there u e s (inr v) = free-behind there v s

        from : at n < end → (at n + 1 < length rows) × ((at n + 1 < end) ⊎ IsTrue last) × Shares (at n) (at n + 1) → HasFreePlace key rows places (at n)
        from u (there, inl v, s) = free-behind there v s
        from u (there, inr e, s) = beside there u e s (cases_le end (at n + 1))

        go : (end ≤ at n) ⊎ (at n < end) → HasFreePlace key rows places (at n)
        go (inr u) = from u (near u t)
        go (inl u) =
            let v = b.tight (at n) (inside n l) (λ i k li. rises n i (omega (arith, k, next)) li) in
            let same : end ≡ at n = omega (arith, u, v) in
            subst (HasFreePlace key rows places) same (b.loose (sym (again u) ∙ t))

    pub above-more : IsAbove key rows places n (at n) new
    above-more = record {
      within = let k = inside n l in omega (arith, k);
      above = λ i k li. rises n i k li;
      tight = λ p lp f. f n (omega arith) l;
      loose = loose-above;
    }

-- ---- marks

module _ (P : ℕ → Type 0) where
  -- a mark that is set says so of its place
  abbrev pub Says : ℕ → List Bool → Type 0
  Says n marks = (i : ℕ) → i < n → get_or marks i false ≡ true → P i

  pub says-push : (n : ℕ) (marks : List Bool) (x : Bool) → length marks ≡ n → Says n marks → (x ≡ true → P n) → Says (n + 1) (marks ++ x ∷ [])
  says-push n marks x size s f i l e = go (cases_next i n l)
    where
      go : (i < n) ⊎ (i ≡ n) → P i
      go (inl u) = s i u (sym (get_or_append_left marks (x ∷ []) false i (omega (arith, u, size))) ∙ e)
      go (inr u) = subst P (sym u) (f (sym (get_or_push marks x false i (size ∙ sym u)) ∙ e))

  pub says-set : (n k : ℕ) (marks : List Bool) (x : Bool) → k < length marks → Says n marks → (x ≡ true → P k) → Says n (set marks k x)
  says-set n k marks x lk s f i l e = go (ℕ_discrete i k)
    where
      go : Dec (i ≡ k) → P i
      go (yes u) = subst P (sym u) (f (sym (get_or-set_same marks k x false lk) ∙ (ap (λ j. get_or (set marks k x) j false) (sym u) ∙ e)))
      go (no u) = s i l (sym (get_or-set_other marks k i x false u) ∙ e)
