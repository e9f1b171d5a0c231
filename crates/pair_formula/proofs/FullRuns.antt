-- The full blocks of one table, run after run.
use Rattle.std.proofs.Common.{◌≡◌, ℕ, ◌<◌, ◌≤◌, ◌+◌, ◌-◌, ◌↔◌, ◌⊎◌, inl, inr, List, [], ◌∷◌, ◌++◌, length, get_or, slice_get, Some, refl, sym, ◌∙◌, ap, subst, arith, Contains, Less}
use Rattle.std.specs.List.Sorted.{IsStrictlySortedBy}
use Rattle.std.specs.Ordering.{nat_cmp}
use Rattle.std.proofs.lemmas.Bool.{cases_order}
use Rattle.std.proofs.lemmas.Option.{get_or_from_slice_get}
use Rattle.std.proofs.lemmas.List.Elements.{Contains-append_left, Contains-push, Contains-push_cases, Contains-get_or}
use Rattle.cqa_value.specs.declared.value.Value.{Value}
use Rattle.cqa_model.specs.Database.{block_cmp}
use Rattle.cqa_model.specs.Repairs.{SharesKey}
use Rattle.cqa_model.proofs.BlockOrder.{grouped}
use Rattle.cqa_model.proofs.Classic.{mem-nil, mem-cases}
use Rattle.cqa_model.proofs.Repairs.{shares-self, shares-sym, shares-trans}
use Rattle.cqa_value.proofs.Words.{cases_le, nat_cmp_less, sorted_join}
use Rattle.row_lists.specs.declared.span.Span.{Span}
use Rattle.row_lists.specs.Spans.{span_cmp, AreBasedTo, Covers}
use Rattle.row_lists.specs.Runs.{AreRowPlaces}
use Rattle.row_lists.specs.Loose.{HasFreePlace}
use Rattle.row_lists.proofs.Numbers.{place_of}
use Rattle.row_lists.proofs.Columns.{places-up}
use Rattle.row_lists.proofs.Order.{then_less, equal_self}
use Rattle.row_lists.proofs.Spans.{based-joined, none_sorted}
use Rattle.row_lists.proofs.Running.{single_sorted}
use Rattle.pair_formula.specs.Full.{FollowsInBlock, IsInRow, HasNeighbour, IsRunAdded, IsFullRun, AreFullRuns}

module _ (key : List ℕ) (rows : List (List Value)) (places : List ℕ) where
  abbrev at : ℕ → ℕ
  at i = get_or places i 0

  abbrev row : ℕ → List Value
  row p = get_or rows p []

  -- one row is a run, and the next one makes it longer
  pub in-row-one : (i : ℕ) → IsInRow key rows places i (i + 1)
  in-row-one i k l u = let e : k ≡ i = omega (arith, l, u) in subst (λ z. (at z ≡ at i + (z - i)) × SharesKey key (row (at i)) (row (at z))) (sym e) (omega arith, shares-self key (row (at i)))

  pub in-row-more : (i j : ℕ) → i < j → IsInRow key rows places i j → FollowsInBlock key rows (at (j - 1)) (at j) → IsInRow key rows places i (j + 1)
  in-row-more i j l h f k lk uk = go (cases_order k j)
    where
      last : (at (j - 1) ≡ at i + ((j - 1) - i)) × SharesKey key (row (at i)) (row (at (j - 1)))
      last = h (j - 1) (omega (arith, l)) (omega (arith, l))

      here : (at j ≡ at i + (j - i)) × SharesKey key (row (at i)) (row (at j))
      here = let a = last.0 in let b = f.0 in (omega (arith, a, b, l), shares-trans key (row (at i)) (row (at (j - 1))) (row (at j)) last.1 f.1)

      go : (k ≡ j) ⊎ ((k < j) ⊎ (j < k)) → (at k ≡ at i + (k - i)) × SharesKey key (row (at i)) (row (at k))
      go (inr (inl u)) = h k lk u
      go (inl e) = subst (λ z. (at z ≡ at i + (z - i)) × SharesKey key (row (at i)) (row (at z))) (sym e) here
      go (inr (inr u)) = absurd (omega (arith, u, uk))

  -- the runs before a place of the list are done
  pub record AreFullTo (atom base n vars : ℕ) (spans : List Span) : Type 0 where
    pub within : n ≤ length places
    pub in_order : IsStrictlySortedBy span_cmp spans
    pub based : AreBasedTo base spans vars
    pub small : vars ≤ base + length rows
    pub room : (k : ℕ) → n ≤ k → k < length places → vars ≤ base + at k
    pub before : (s : Span) → Contains spans s → (k : ℕ) → n ≤ k → k < length places → s.start < at k
    pub each : (s : Span) → Contains spans s → IsFullRun key rows atom places s
    pub every : (k : ℕ) → k < n → ((s : Span) × Contains spans s × Covers s (at k)) ⊎ HasFreePlace key rows places (at k)
    pub apart : 0 < n → n < length places → FollowsInBlock key rows (at (n - 1)) (at n) → ⊥

  pub full-none : (atom base : ℕ) → AreFullTo atom base 0 base []
  full-none atom base = record {
    within = omega arith;
    in_order = none_sorted;
    based = refl;
    small = omega arith;
    room = λ k l u. omega arith;
    before = λ s m. absurd (mem-nil s m);
    each = λ s m. absurd (mem-nil s m);
    every = λ k l. absurd (omega (arith, l));
    apart = λ l. absurd (omega (arith, l));
  }

  pub full-all : (atom base n vars : ℕ) (spans : List Span) → AreFullTo atom base n vars spans → length places ≤ n → AreFullRuns key rows atom base places vars spans
  full-all atom base n vars spans h l = record {
    in_order = h.in_order;
    based = h.based;
    small = h.small;
    each = h.each;
    every = λ p m. let i = place_of places p m in
        let e : at i.0 ≡ p = get_or_from_slice_get places i.0 p 0 i.2 in
        let il = i.1 in
        subst (λ r. ((s : Span) × Contains spans s × Covers s r) ⊎ HasFreePlace key rows places r) e (h.every i.0 (omega (arith, il, l)));
  }

  module _ (order : IsStrictlySortedBy (block_cmp key) rows) (are : AreRowPlaces rows places) where
    module _ (atom base n vars : ℕ) (spans : List Span) (h : AreFullTo atom base n vars spans) (here : n < length places) (end : ℕ) (some : n < end) (in' : end ≤ length places)
        (run : IsInRow key rows places n end) (stops : end < length places → FollowsInBlock key rows (at (end - 1)) (at end) → ⊥) where
      abbrev start : ℕ
      start = at n

      abbrev stop : ℕ
      stop = at n + (end - n)

      last : (at (end - 1) ≡ at n + ((end - 1) - n)) × SharesKey key (row start) (row (at (end - 1)))
      last = run (end - 1) (omega (arith, some)) (omega (arith, some))

      pub stop-within : stop ≤ length rows
      stop-within = let a = last.0 in let b = are.there (end - 1) (omega (arith, some, in')) in omega (arith, a, b, some)

      after : (k : ℕ) → end ≤ k → k < length places → stop ≤ at k
      after k l u = let a = last.0 in let b = are.in_order (end - 1) k (omega (arith, some, l)) u in omega (arith, a, b, some)

      -- the row before the run is at no place, nor is the one behind it
      before-free : 0 < start → SharesKey key (row start) (row (start - 1)) → Contains places (start - 1) → ⊥
      before-free some' sh m = go (place_of places (start - 1) m)
        where
          go : ((i : ℕ) × (i < length places) × (slice_get places i ≡ Some (start - 1))) → ⊥
          go (i, l, g) = cases (cases_order (i + 1) n)
            where
              e : at i ≡ start - 1
              e = get_or_from_slice_get places i (start - 1) 0 g

              cases : (i + 1 ≡ n) ⊎ ((i + 1 < n) ⊎ (n < i + 1)) → ⊥
              cases (inr (inl u)) = let a = are.in_order i (i + 1) (omega arith) (omega (arith, u, here)) in let b = are.in_order (i + 1) n u here in let d = e in omega (arith, a, b, d, some')
              cases (inl u) =
                  let d = e in
                  let same : n - 1 ≡ i = omega (arith, u) in
                  let es : at (n - 1) ≡ start - 1 = ap at same ∙ e in
                  h.apart (omega (arith, u)) here (omega (arith, es, some'), subst (λ p. SharesKey key (row p) (row start)) (sym es) (shares-sym key (row start) (row (start - 1)) sh))
              cases (inr (inr u)) = let a = places-up rows places are n i (omega (arith, u)) l in let d = e in omega (arith, a, d, some')

      behind-free : SharesKey key (row start) (row stop) → Contains places stop → ⊥
      behind-free sh m = go (place_of places stop m)
        where
          go : ((i : ℕ) × (i < length places) × (slice_get places i ≡ Some stop)) → ⊥
          go (i, l, g) = cases (cases_order i end)
            where
              e : at i ≡ stop
              e = get_or_from_slice_get places i stop 0 g

              cases : (i ≡ end) ⊎ ((i < end) ⊎ (end < i)) → ⊥
              cases (inr (inl u)) = let a = places-up rows places are i (end - 1) (omega (arith, u)) (omega (arith, some, in')) in let b = last.0 in let d = e in omega (arith, a, b, d, some)
              cases (inl u) =
                  let b = last.0 in
                  let es : at end ≡ stop = ap at (sym u) ∙ e in
                  stops (omega (arith, u, l)) (
                    omega (arith, es, b, some),
                    subst (λ p. SharesKey key (row (at (end - 1))) (row p)) (sym es) (shares-trans key (row (at (end - 1))) (row start) (row stop) (shares-sym key (row start) (row (at (end - 1))) last.1) sh),
                  )
              cases (inr (inr u)) = let a = after end (omega arith) (omega (arith, u, l)) in let b = are.in_order end i u l in let d = e in omega (arith, a, b, d)

      has-free : HasNeighbour key rows start stop → HasFreePlace key rows places start
      has-free (inl (some', sh)) = record { free = start - 1; there = (let w = are.there n here in omega (arith, w)); shares = sh; apart = before-free some' sh }
      has-free (inr (l, sh)) = record { free = stop; there = l; shares = sh; apart = behind-free sh }

      free-at : HasNeighbour key rows start stop → (k : ℕ) → n ≤ k → k < end → HasFreePlace key rows places (at k)
      free-at more k l u =
          let f = has-free more in
          record {
            free = f.free;
            there = f.there;
            shares = shares-trans key (row (at k)) (row start) (row f.free) (shares-sym key (row start) (row (at k)) (run k l u).1) f.shares;
            apart = f.apart;
          }

      abbrev Done : List Span → ℕ → Type 0
      Done ss k = ((s : Span) × Contains ss s × Covers s (at k)) ⊎ HasFreePlace key rows places (at k)

      skipped : HasNeighbour key rows start stop → AreFullTo atom base end vars spans
      skipped more = record {
        within = in';
        in_order = h.in_order;
        based = h.based;
        small = h.small;
        room = λ k l u. h.room k (omega (arith, some, l)) u;
        before = λ s m k l u. h.before s m k (omega (arith, some, l)) u;
        each = h.each;
        every = λ k u. every k u (cases_le n k);
        apart = λ l u. stops u;
      }
        where
          every : (k : ℕ) → k < end → (n ≤ k) ⊎ (k < n) → Done spans k
          every k u (inl l) = inr (free-at more k l u)
          every k u (inr l) = h.every k l

      module _ (whole : HasNeighbour key rows start stop → ⊥) where
        abbrev span : Span
        span = record { slot = atom; start = start; count = stop - start; base = vars }

        placed : (p : ℕ) → Covers span p → (n ≤ n + (p - start)) × (n + (p - start) < end) × (at (n + (p - start)) ≡ p)
        placed p c =
            let c0 = c.0 in
            let c1 = c.1 in
            let u : n + (p - start) < end = omega (arith, c0, c1, some) in
            let r = (run (n + (p - start)) (omega arith) u).0 in
            (omega arith, u, omega (arith, r, c0))

        block : (i : ℕ) → i < length rows → SharesKey key (row start) (row i) ↔ Covers span i
        block i l = (λ sh. go sh (cases_le start i) (cases_le stop i), λ c. let p = placed i c in subst (λ r. SharesKey key (row start) (row r)) p.2 (run (n + (i - start)) p.0 p.1).1)
          where
            go : SharesKey key (row start) (row i) → (start ≤ i) ⊎ (i < start) → (stop ≤ i) ⊎ (i < stop) → Covers span i
            go sh (inl a) (inr b) = (a, omega (arith, a, b))
            go sh (inl a) (inl b) = absurd (whole (inr (omega (arith, b, l), grouped key rows order start stop i (omega arith) b l sh)))
            go sh (inr a) b =
                let w = are.there n here in
                let back = shares-sym key (row start) (row i) sh in
                let near = grouped key rows order i (start - 1) start (omega (arith, a)) (omega arith) w back in
                absurd (whole (inl (omega (arith, a), shares-trans key (row start) (row i) (row (start - 1)) sh near)))

        is-full : IsFullRun key rows atom places span
        is-full = record {
          of_atom = refl;
          whole = record { some = omega (arith, some); within = (let w = stop-within in omega (arith, w)); block = block };
          full = λ p c. let q = placed p c in let u = q.1 in subst (Contains places) q.2 (Contains-get_or places (n + (p - start)) 0 (omega (arith, u, in')));
        }

        added : AreFullTo atom base end (vars + (stop - start)) (spans ++ span ∷ [])
        added = record {
          within = in';
          in_order = sorted_join span_cmp spans (span ∷ []) h.in_order (single_sorted span) (λ t u mt mu. subst (λ z. span_cmp t z ≡ Less) (only u mu) (less t mt));
          based = based-joined base vars (vars + (stop - start)) spans (span ∷ []) h.based (refl, refl);
          small = let r = h.room n (omega arith) here in let w = stop-within in omega (arith, r, w);
          room = λ k l u. let r = h.room n (omega arith) here in let a = after k l u in omega (arith, r, a);
          before = λ s m k l u. elim (Contains-push_cases spans span s m) [
            | inl o ↦ h.before s o k (omega (arith, some, l)) u
            | inr e ↦ (let a = after k l u in subst (λ (z : Span). z.start < at k) e (omega (arith, a, some)))
          ];
          each = λ s m. elim (Contains-push_cases spans span s m) [ inl o ↦ h.each s o | inr e ↦ subst (IsFullRun key rows atom places) e is-full ];
          every = λ k u. every k u (cases_le n k);
          apart = λ l u. stops u;
        }
          where
            only : (u : Span) → Contains (span ∷ []) u → span ≡ u
            only u m = elim (mem-cases u span [] m) [ inl e ↦ e | inr k ↦ absurd (mem-nil u k) ]

            less : (t : Span) → Contains spans t → span_cmp t span ≡ Less
            less t m = then_less (nat_cmp t.slot atom) (nat_cmp t.start start) (subst (λ z. nat_cmp t.slot z ≡ Rattle.std.proofs.Common.Equal) (h.each t m).of_atom (equal_self t.slot)) (nat_cmp_less t.start start (h.before t m n (omega arith) here))

            every : (k : ℕ) → k < end → (n ≤ k) ⊎ (k < n) → Done (spans ++ span ∷ []) k
            every k u (inl l) = inl (span, Contains-push spans span, (let r = (run k l u).0 in (omega (arith, r), omega (arith, r, u, l))))
            every k u (inr l) = elim (h.every k l) [ inl o ↦ inl (o.0, Contains-append_left spans (span ∷ []) o.0 o.1, o.2) | inr f ↦ inr f ]

      pub full-more : (more : ℕ) (new : List Span) → IsRunAdded key rows atom vars start stop spans more new → AreFullTo atom base end more new
      full-more more new (inl (m, e, is)) = subst (λ z. AreFullTo atom base end z new) (sym e) (subst (AreFullTo atom base end vars) (sym is) (skipped m))
      full-more more new (inr (w, e, is)) = subst (λ z. AreFullTo atom base end z new) (sym e) (subst (AreFullTo atom base end (vars + (stop - start))) (sym is) (added w))
