-- The blocks that have one of some places, place by place.
use Rattle.std.proofs.Common.{◌≡◌, ℕ, ◌<◌, ◌≤◌, ◌+◌, ◌-◌, ◌↔◌, ◌⊎◌, inl, inr, List, [], ◌∷◌, ◌++◌, length, get_or, refl, sym, ◌∙◌, ap, subst, arith, Contains, Less}
use Rattle.std.specs.List.Sorted.{IsStrictlySortedBy}
use Rattle.std.proofs.lemmas.List.Elements.{Contains-append_left, Contains-push, Contains-push_cases}
use Rattle.std.specs.Ordering.{nat_cmp}
use Rattle.cqa_value.specs.declared.value.Value.{Value}
use Rattle.cqa_value.proofs.Words.{nat_cmp_less, cases_le, cases_next, sorted_join}
use Rattle.cqa_model.specs.Repairs.{SharesKey}
use Rattle.cqa_model.proofs.Classic.{mem-nil, mem-cases}
use Rattle.cqa_model.proofs.Repairs.{shares-sym, shares-trans}
use Rattle.row_lists.specs.declared.span.Span.{Span}
use Rattle.row_lists.specs.Spans.{span_cmp, AreBasedTo, Covers}
use Rattle.row_lists.specs.Runs.{AreRowPlaces, IsRun, AreRuns}
use Rattle.row_lists.proofs.Order.{then_less, equal_self}
use Rattle.row_lists.proofs.Spans.{none_sorted}

based-push : (n m : ℕ) (ss : List Span) (s : Span) → AreBasedTo n ss m → s.base ≡ m → AreBasedTo n (ss ++ s ∷ []) (m + s.count)
based-push n m [] s h e = (e ∙ sym h, ap (λ k. k + s.count) h)
based-push n m (t ∷ ts) s h e = (h.0, based-push (n + t.count) m ts s h.1 e)

-- the first i places have their blocks, and the last of these ends at a place
pub record AreRunsTo (key : List ℕ) (rows : List (List Value)) (slot base : ℕ) (places : List ℕ) (i end next : ℕ) (spans : List Span) : Type 0 where
  pub within : end ≤ length rows
  pub in_order : IsStrictlySortedBy span_cmp spans
  pub based : AreBasedTo base spans next
  pub small : next ≤ base + end
  pub each : (s : Span) → Contains spans s → IsRun key rows slot places s
  pub every : (j : ℕ) → j < i → (s : Span) × Contains spans s × Covers s (get_or places j 0)
  pub ends : (s : Span) → Contains spans s → s.start + s.count ≤ end
  pub last : 0 < end → (s : Span) × Contains spans s × (s.start + s.count ≡ end) × ((j : ℕ) → i ≤ j → j < length places → s.start ≤ get_or places j 0)

pub single_sorted : (s : Span) → IsStrictlySortedBy span_cmp (s ∷ [])
unfolding IsStrictlySortedBy
single_sorted s = (tt, tt)

module _ (key : List ℕ) (rows : List (List Value)) (slot base : ℕ) (places : List ℕ) where
  pub runs-none : AreRunsTo key rows slot base places 0 0 base []
  runs-none = record {
    within = omega arith;
    in_order = none_sorted;
    based = refl;
    small = omega arith;
    each = λ s m. absurd (mem-nil s m);
    every = λ j l. absurd (omega (arith, l));
    ends = λ s m. absurd (mem-nil s m);
    last = λ l. absurd (omega (arith, l));
  }

  pub runs-all : (i end next : ℕ) (spans : List Span) → AreRunsTo key rows slot base places i end next spans → length places ≤ i → AreRuns key rows slot base places next spans
  runs-all i end next spans h l = record {
    in_order = h.in_order;
    based = h.based;
    small = let s = h.small in let w = h.within in omega (arith, s, w);
    each = h.each;
    every = λ j lj. h.every j (omega (arith, l, lj));
  }

  module _ (i end next : ℕ) (spans : List Span) (h : AreRunsTo key rows slot base places i end next spans) (here : i < length places) (p : AreRowPlaces rows places) where
    -- the place is in the last block
    pub runs-skip : get_or places i 0 < end → AreRunsTo key rows slot base places (i + 1) end next spans
    runs-skip u = record {
      within = h.within;
      in_order = h.in_order;
      based = h.based;
      small = h.small;
      each = h.each;
      every = λ j l. every j (cases_next j i (omega (arith, l)));
      ends = h.ends;
      last = λ l. let t = h.last l in (t.0, t.1, t.2, λ j lj le. t.3 j (omega (arith, lj)) le);
    }
      where
        every : (j : ℕ) → (j < i) ⊎ (j ≡ i) → (s : Span) × Contains spans s × Covers s (get_or places j 0)
        every j (inl l) = h.every j l
        every j (inr e) =
            let t = h.last (omega (arith, u)) in
            subst (λ k. (s : Span) × Contains spans s × Covers s (get_or places k 0)) (sym e) (t.0, t.1, (t.3 i (omega arith) here, subst (λ k. get_or places i 0 < k) (sym t.2) u))

    -- the place is in a new block
    module _ (new : end ≤ get_or places i 0) (start stop : ℕ)
        (before : start ≤ get_or places i 0)
        (from : (k : ℕ) → k ≤ get_or places i 0 → SharesKey key (get_or rows (get_or places i 0) []) (get_or rows k []) ↔ (start ≤ k))
        (behind : start < stop) (in' : stop ≤ length rows)
        (to : (k : ℕ) → start ≤ k → k < length rows → SharesKey key (get_or rows start []) (get_or rows k []) ↔ (k < stop))
        (s : Span) (sa : s.slot ≡ slot) (ss : s.start ≡ start) (sc : s.start + s.count ≡ stop) (sb : s.base ≡ next) where
      place_in : get_or places i 0 < length rows
      place_in = p.there i here

      shared : SharesKey key (get_or rows (get_or places i 0) []) (get_or rows start [])
      shared = (from start before).1 (omega arith)

      place_before : get_or places i 0 < stop
      place_before = (to (get_or places i 0) before place_in).0 (shares-sym key (get_or rows (get_or places i 0) []) (get_or rows start []) shared)

      covers_place : Covers s (get_or places i 0)
      covers_place = (omega (arith, ss, before), subst (λ k. get_or places i 0 < k) (sym sc) place_before)

      -- no row of the last block is in it
      after_last : end ≤ start
      after_last = go (cases_le end start)
        where
          go : (end ≤ start) ⊎ (start < end) → end ≤ start
          go (inl l) = l
          go (inr l) =
              let t = h.last (omega (arith, l)) in
              let r = h.each t.0 t.1 in
              let te = t.2 in
              let rs = r.whole.some in
              let w = h.within in
              let k = end - 1 in
              let old : SharesKey key (get_or rows t.0.start []) (get_or rows k []) = (r.whole.block k (omega (arith, l, w))).1 (omega (arith, te, rs), omega (arith, te, l)) in
              let mine : SharesKey key (get_or rows (get_or places i 0) []) (get_or rows k []) = (from k (omega (arith, new))).1 (omega (arith, l)) in
              let both = shares-trans key (get_or rows t.0.start []) (get_or rows k []) (get_or rows (get_or places i 0) []) old (shares-sym key (get_or rows (get_or places i 0) []) (get_or rows k []) mine) in
              let c = (r.whole.block (get_or places i 0) place_in).0 both in
              let c1 = c.1 in
              absurd (omega (arith, c1, te, new))

      is_run : IsRun key rows slot places s
      is_run = record {
        of_slot = sa;
        whole = record {
          some = omega (arith, ss, sc, behind);
          within = omega (arith, sc, in');
          block = λ k l. subst (λ b. SharesKey key (get_or rows b []) (get_or rows k []) ↔ Covers s k) (sym ss) (block k l);
        };
        met = (i, here, covers_place);
      }
        where
          block : (k : ℕ) → k < length rows → SharesKey key (get_or rows start []) (get_or rows k []) ↔ Covers s k
          block k l = (
            λ sh. go sh (cases_le start k),
            λ c. let c0 = c.0 in let c1 = c.1 in (to k (omega (arith, c0, ss)) l).1 (omega (arith, c1, sc)),
          )
            where
              go : SharesKey key (get_or rows start []) (get_or rows k []) → (start ≤ k) ⊎ (k < start) → Covers s k
              go sh (inl u) = let v = (to k u l).0 sh in (omega (arith, ss, u), omega (arith, sc, v))
              go sh (inr u) =
                  let v = (from k (omega (arith, u, before))).0 (shares-trans key (get_or rows (get_or places i 0) []) (get_or rows start []) (get_or rows k []) shared sh) in
                  absurd (omega (arith, u, v))

      pub runs-more : AreRunsTo key rows slot base places (i + 1) stop (next + s.count) (spans ++ s ∷ [])
      runs-more = record {
        within = in';
        in_order = sorted_join span_cmp spans (s ∷ []) h.in_order (single_sorted s) (λ t u mt mu. subst (λ z. span_cmp t z ≡ Less) (only u mu) (less t mt));
        based = based-push base next spans s h.based sb;
        small = let b = h.small in let a = after_last in omega (arith, b, a, ss, sc);
        each = λ t m. elim (Contains-push_cases spans s t m) [ inl n ↦ h.each t n | inr e ↦ subst (IsRun key rows slot places) e is_run ];
        every = λ j l. every j (cases_next j i (omega (arith, l)));
        ends = λ t m. elim (Contains-push_cases spans s t m) [ inl n ↦ let e = h.ends t n in let a = after_last in omega (arith, e, a, behind) | inr e ↦ subst (λ (z : Span). z.start + z.count ≤ stop) e (omega (arith, sc)) ];
        last = λ l. (s, Contains-push spans s, sc, λ j lj le. let o = p.in_order i j (omega (arith, lj)) le in omega (arith, ss, before, o));
      }
        where
          only : (u : Span) → Contains (s ∷ []) u → s ≡ u
          only u m = elim (mem-cases u s [] m) [ inl e ↦ e | inr n ↦ absurd (mem-nil u n) ]

          less : (t : Span) → Contains spans t → span_cmp t s ≡ Less
          less t m =
              let e : t.slot ≡ s.slot = (h.each t m).of_slot ∙ sym sa in
              let b = h.ends t m in
              let c = (h.each t m).whole.some in
              let a = after_last in
              then_less (nat_cmp t.slot s.slot) (nat_cmp t.start s.start) (subst (λ z. nat_cmp t.slot z ≡ Rattle.std.proofs.Common.Equal) e (equal_self t.slot)) (nat_cmp_less t.start s.start (omega (arith, b, c, a, ss)))

          every : (j : ℕ) → (j < i) ⊎ (j ≡ i) → (t : Span) × Contains (spans ++ s ∷ []) t × Covers t (get_or places j 0)
          every j (inl l) = let t = h.every j l in (t.0, Contains-append_left spans (s ∷ []) t.0 t.1, t.2)
          every j (inr e) = (s, Contains-push spans s, subst (λ k. Covers s (get_or places k 0)) (sym e) covers_place)
