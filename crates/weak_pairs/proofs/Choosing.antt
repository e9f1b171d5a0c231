-- Where each block is settled, rows can be chosen: walks from block to block would find them.
use Rattle.std.proofs.Common.{◌≡◌, ◌≢◌, ℕ, zero, suc, ◌<◌, ◌≤◌, ◌⊎◌, inl, inr, List, length, set, refl, sym, ◌∙◌, arith, Bool, true, Option, Some, None}
use Rattle.std.specs.Prelude.{slice_index}
use Rattle.cqa_value.proofs.Words.{dec_one_below}
use Rattle.std.proofs.lemmas.Option.{same_Some, none-some}
use Rattle.weak_pairs.specs.declared.graph.Ends.{Ends}
use Rattle.weak_pairs.specs.Peeling.{IsBlockNumber, ends_of, AreLaidOut, row_of, IsServed, open_count, IsMatchingState, HasFreeEdge, IsSettledBlock, IsOtherEnd, HasTakenRow, AreChosen}
use Rattle.weak_pairs.proofs.Peeling.{is_or, served_or_open, fewer, has-taken, at_or, served_of, all_settled, chosen-of}

dec_none : (o : Option ℕ) → Dec (o ≡ None)
dec_none None = yes refl
dec_none (Some i) = no (λ e. none-some i (sym e))

module _ (start edge : List ℕ) (ends : List Ends) (laid : AreLaidOut start edge ends) where
  abbrev HasChosen : Type 0
  HasChosen = (chosen : List (Option ℕ)) × AreChosen start edge chosen

  other-there : (at e : ℕ) → (w : Option ℕ) × IsOtherEnd (ends_of ends e) at w
  other-there at e = elim (is_or (ends_of ends e).left at) [
    | inl l ↦ ((ends_of ends e).right, inl (l, refl))
    | inr n ↦ ((ends_of ends e).left, inr (n, refl))
  ]

  -- an open block has an edge left, all others are settled, and at most n blocks are open
  abbrev FromOpen : ℕ → Type 0
  FromOpen n = (own : List (Option ℕ)) (taken : List Bool) → open_count own ≤ n → IsMatchingState start edge ends own taken → (at : ℕ) → IsBlockNumber start at → row_of own at ≡ None → HasFreeEdge start edge taken at →
      ((u : ℕ) → IsBlockNumber start u → u ≢ at → IsSettledBlock start edge own taken u) → HasChosen

  from-any : (n : ℕ) → FromOpen n → (own : List (Option ℕ)) (taken : List Bool) → open_count own ≤ n → IsMatchingState start edge ends own taken → ((u : ℕ) → IsBlockNumber start u → IsSettledBlock start edge own taken u) → HasChosen
  from-any n rec own taken few st settled = go (dec_one_below (λ v. row_of own v ≡ None) (λ v. dec_none (row_of own v)) (length own))
    where
      open-at : (v : ℕ) → IsBlockNumber start v → row_of own v ≡ None → IsSettledBlock start edge own taken v → HasChosen
      open-at v b o (inl s) = absurd (none-some s.0 (sym o ∙ s.1))
      open-at v b o (inr h) = rec own taken few st v b o (h.0, h.2, h.4) (λ u bu n. settled u bu)

      go : Dec ((v : ℕ) × (v < length own) × (row_of own v ≡ None)) → HasChosen
      go (yes (v, l, o)) = let b : IsBlockNumber start v = (let s = st.blocks in omega (arith, s, l)) in open-at v b o (settled v b)
      go (no none) = (own, chosen-of start edge ends own taken (length own) st.blocks st (λ v l. served_of start edge own taken v (λ o. none (v, l, o))))

  from-open : (n : ℕ) → FromOpen n
  from-open zero own taken few st at b o one others = let l = fewer start edge ends laid own taken st at one.0 b o one.1 one.2 in absurd (omega (arith, l, few))
  from-open (suc n) own taken few st at b o one others = go (from-open n) (other-there at (slice_index edge one.0))
    where
      or-at : (u : ℕ) → IsBlockNumber start u → (u ≡ at) ⊎ IsSettledBlock start edge own taken u
      or-at u bu = at_or start edge own taken at u (λ k. others u bu k)

      next : FromOpen n → (owns : List (Option ℕ)) (takes : List Bool) (w : ℕ) → HasTakenRow start edge ends own taken owns takes at one.0 (Some w) → IsServed owns w ⊎ (row_of owns w ≡ None) → HasChosen
      next rec owns takes w t s = turn s (t.ready w (or-at w (t.block w refl)))
        where
          few_new : open_count owns ≤ n
          few_new = let l = t.fewer in omega (arith, l, few)

          rest : (u : ℕ) → IsBlockNumber start u → u ≢ w → IsSettledBlock start edge owns takes u
          rest u bu n = t.settled u (λ c. n (sym (same_Some w u c))) (or-at u bu)

          turn : IsServed owns w ⊎ (row_of owns w ≡ None) → IsServed owns w ⊎ HasFreeEdge start edge takes w → HasChosen
          turn (inl s) ready = from-any n rec owns takes few_new t.matching (λ u bu. all_settled start edge owns takes w s u (λ k. rest u bu k))
          turn (inr free) (inl s) = absurd (none-some s.0 (sym free ∙ s.1))
          turn (inr free) (inr has) = rec owns takes few_new t.matching w (t.block w refl) free has rest

      go : FromOpen n → (w : Option ℕ) × IsOtherEnd (ends_of ends (slice_index edge one.0)) at w → HasChosen
      go rec (None, is) =
          let t = has-taken start edge ends laid own taken st at one.0 b o one.1 one.2 None is in
          from-any n rec (set own at (Some one.0)) (set taken (slice_index edge one.0) true) (let l = t.fewer in omega (arith, l, few)) t.matching (λ u bu. t.settled u (λ c. none-some u c) (or-at u bu))
      go rec (Some w, is) =
          next rec (set own at (Some one.0)) (set taken (slice_index edge one.0) true) w (has-taken start edge ends laid own taken st at one.0 b o one.1 one.2 (Some w) is) (served_or_open (set own at (Some one.0)) w)

  pub chosen-there : (own : List (Option ℕ)) (taken : List Bool) → IsMatchingState start edge ends own taken → ((u : ℕ) → IsBlockNumber start u → IsSettledBlock start edge own taken u) → HasChosen
  chosen-there own taken st settled = from-any (open_count own) (from-open (open_count own)) own taken (omega arith) st settled
