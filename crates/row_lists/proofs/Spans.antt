-- Spans of whole blocks give variables and blocks of numbers.
use Rattle.std.proofs.Common.{◌≡◌, ℕ, zero, suc, ◌<◌, ◌≤◌, ◌+◌, ◌-◌, ◌↔◌, ◌⊎◌, inl, inr, List, [], ◌∷◌, ◌++◌, length, length-append, get_or, map, Some, refl, sym, ◌∙◌, ap, subst, arith, Contains, slice_get, Less, Equal}
use Rattle.std.specs.Ordering.{nat_cmp}
use Rattle.std.specs.List.{range_with_len}
use Rattle.std.specs.List.Sorted.{IsStrictlySortedBy}
use Rattle.std.specs.Cmp.Lexicographic.{slice_cmp}
use Rattle.std.proofs.lemmas.Cmp.{nat_cmp_total}
use Rattle.std.proofs.lemmas.List.Elements.{Contains-append_cases, Contains-append_left, Contains-append_right, Contains-get_or, recursion_from_All}
use Rattle.std.proofs.lemmas.List.FromFn.{length-range_with_len, get_or-range_with_len, length-map-range_with_len}
use Rattle.std.proofs.lemmas.Map.Keys.{Less-from_sorted}
use Rattle.std.proofs.lemmas.Option.{get_or_from_slice_get, slice_get_within}
use Rattle.cqa_value.specs.declared.value.Value.{Value}
use Rattle.cqa_value.proofs.Words.{Contains-map, Contains-from_map, Contains-slice_get, cases_le, nat_cmp_less, slice_get-append_left, Contains-range, in_range, sorted_join, member_by_recursion}
use Rattle.cqa_model.specs.Repairs.{SharesKey}
use Rattle.cqa_model.proofs.Classic.{mem-head, mem-tail, mem-nil, mem-cases}
use Rattle.cqa_model.proofs.Repairs.{shares-sym, shares-trans}
use Rattle.join_access.proofs.Sorted.{sorted-from, one_sorted}
use Rattle.row_lists.specs.declared.span.Span.{Span}
use Rattle.row_lists.specs.Clauses.{Variable, variable_cmp, HasNumber, AreAllLists}
use Rattle.row_lists.specs.Spans.{at, IsInSpan, IsWholeBlock, IsEarlierSpan, AreSpansApart, span_cmp, AreBased, AreBasedTo, variables_in, variables_of_spans, numbers_in}
use Rattle.row_lists.proofs.Rows.{numbered}
use Rattle.row_lists.proofs.Order.{less_then, then_cases, from_less, from_equal, slot_less, place_less, same_number}

pub range_rises : (a n : ℕ) → IsStrictlySortedBy nat_cmp (range_with_len a n)
range_rises a n = sorted-from nat_cmp (range_with_len a n) 0 (λ i j l lj.
    let k : j < n = subst (λ m. j < m) (length-range_with_len a n) lj in
    let ei = get_or-range_with_len a n i 0 (omega (arith, l, k)) in
    let ej = get_or-range_with_len a n j 0 k in
    nat_cmp_less (get_or (range_with_len a n) i 0) (get_or (range_with_len a n) j 0) (omega (arith, ei, ej, l)))

get-right : {A : Type 0} (xs ys : List A) (k j : ℕ) → j ≡ length xs + k → slice_get (xs ++ ys) j ≡ slice_get ys k
get-right [] ys k j e = ap (slice_get ys) (omega (arith, e))
get-right (z ∷ xs) ys k zero e = absurd (omega (arith, e))
get-right (z ∷ xs) ys k (suc j) e = get-right xs ys k j (omega (arith, e))

get-run : {A : Type 0} (f : ℕ → A) (a n j : ℕ) → j < n → slice_get (map f (range_with_len a n)) j ≡ Some (f (a + j))
get-run f a zero j l = absurd (omega (arith, l))
get-run f a (suc n) zero l = ap (λ k. Some (f k)) (omega arith)
get-run f a (suc n) (suc j) l = get-run f (a + 1) n j (omega (arith, l)) ∙ ap (λ k. Some (f k)) (omega arith)

length-run : {A : Type 0} (f : ℕ → A) (a n : ℕ) → length (map f (range_with_len a n)) ≡ n
length-run f a zero = refl
length-run f a (suc n) = ap suc (length-run f (a + 1) n)

-- the variables of a span
pub in_run : (s : Span) (x : Variable) → Contains (variables_in s) x → IsInSpan s x
in_run s x m =
    let p = Contains-from_map (at s.slot) (range_with_len s.start s.count) x m in
    let r = in_range s.start s.count p.0 p.1 in
    subst (IsInSpan s) p.2 (refl, r.0, r.1)

pub as_at : (x : Variable) (F : ℕ) → x.slot ≡ F → x ≡ at F x.place
as_at x F e = ap (λ G. at G x.place) e

pub of_run : (s : Span) (x : Variable) → IsInSpan s x → Contains (variables_in s) x
of_run s x i = subst (Contains (variables_in s)) (sym (as_at x s.slot i.0)) (Contains-map (at s.slot) (range_with_len s.start s.count) x.place (Contains-range s.start s.count x.place i.1 i.2))

pub in_variables : (spans : List Span) (x : Variable) → Contains (variables_of_spans spans) x → (s : Span) × Contains spans s × IsInSpan s x
in_variables [] x m = absurd (mem-nil x m)
in_variables (s ∷ ss) x m = elim (Contains-append_cases (variables_in s) (variables_of_spans ss) x m) [
  | inl h ↦ (s, mem-head s ss, in_run s x h)
  | inr h ↦ let p = in_variables ss x h in (p.0, mem-tail p.0 s ss p.1, p.2)
]

pub of_variables : (spans : List Span) (s : Span) (x : Variable) → Contains spans s → IsInSpan s x → Contains (variables_of_spans spans) x
of_variables [] s x m i = absurd (mem-nil s m)
of_variables (t ∷ ts) s x m i = elim (mem-cases s t ts m) [
  | inl e ↦ Contains-append_left (variables_in t) (variables_of_spans ts) x (of_run t x (subst (λ u. IsInSpan u x) (sym e) i))
  | inr h ↦ Contains-append_right (variables_in t) (variables_of_spans ts) x (of_variables ts s x h i)
]

-- bases rise
pub base_from : (n : ℕ) (spans : List Span) → AreBased n spans → (s : Span) → Contains spans s → n ≤ s.base
base_from n [] b s m = absurd (mem-nil s m)
base_from n (t ∷ ts) b s m = elim (mem-cases s t ts m) [
  | inl e ↦ let h : s.base ≡ n = ap (λ (u : Span). u.base) (sym e) ∙ b.0 in omega (arith, h)
  | inr h ↦ let l = base_from (n + t.count) ts b.1 s h in omega (arith, l)
]

-- the number of a variable
pub run_number : (n : ℕ) (spans : List Span) → AreBased n spans → (s : Span) → Contains spans s → (j : ℕ) → j < s.count → (k : ℕ) → n + k ≡ s.base + j →
    slice_get (variables_of_spans spans) k ≡ Some (at s.slot (s.start + j))
run_number n [] b s m j l k e = absurd (mem-nil s m)
run_number n (t ∷ ts) b s m j l k e = elim (mem-cases s t ts m) [
  | inl h ↦ subst (λ (u : Span). slice_get (variables_of_spans (t ∷ ts)) k ≡ Some (at u.slot (u.start + j))) h
      (slice_get-append_left (variables_in t) (variables_of_spans ts) k (at t.slot (t.start + j))
      (let hb : s.base ≡ n = ap (λ (u : Span). u.base) (sym h) ∙ b.0 in
      let kj : j ≡ k = omega (arith, hb, e) in
      let lt : j < t.count = subst (λ (u : Span). j < u.count) (sym h) l in
      subst (λ i. slice_get (variables_in t) i ≡ Some (at t.slot (t.start + j))) kj (get-run (at t.slot) t.start t.count j lt)))
  | inr h ↦ let low = base_from (n + t.count) ts b.1 s h in
      let len = length-run (at t.slot) t.start t.count in
      get-right (variables_in t) (variables_of_spans ts) (k - t.count) k (omega (arith, len, low, e))
      ∙ run_number (n + t.count) ts b.1 s h j l (k - t.count) (omega (arith, low, e))
]

pub has_number : (spans : List Span) → AreBased 0 spans → (s : Span) → Contains spans s → (x : Variable) → IsInSpan s x → HasNumber (variables_of_spans spans) (suc (s.base + (x.place - s.start))) x
has_number spans b s m x i =
    let l = i.1 in
    let u = i.2 in
    let e : s.start + (x.place - s.start) ≡ x.place = omega (arith, l) in
    let is : at s.slot (s.start + (x.place - s.start)) ≡ x = ap (at s.slot) e ∙ sym (as_at x s.slot i.0) in
    subst (λ y. slice_get (variables_of_spans spans) (s.base + (x.place - s.start)) ≡ Some y) is
    (run_number 0 spans b s m (x.place - s.start) (omega (arith, l, u)) (s.base + (x.place - s.start)) (omega arith))

run-sorted : (F a n : ℕ) → IsStrictlySortedBy variable_cmp (map (at F) (range_with_len a n))
unfolding IsStrictlySortedBy
run-sorted F a zero = tt
run-sorted F a (suc n) = (recursion_from_All (λ y. variable_cmp (at F a) y ≡ Less) (map (at F) (range_with_len (a + 1) n)) each, run-sorted F (a + 1) n)
  where
    each : Rattle.std.specs.List.All (λ y. variable_cmp (at F a) y ≡ Less) (map (at F) (range_with_len (a + 1) n))
    each = Rattle.std.proofs.lemmas.List.Elements.All-map (λ y. variable_cmp (at F a) y ≡ Less) (at F) (range_with_len (a + 1) n)
        (λ k d l. let r = in_range (a + 1) n (get_or (range_with_len (a + 1) n) k d) (Contains-get_or (range_with_len (a + 1) n) k d l) in
        place_less (at F a) (at F (get_or (range_with_len (a + 1) n) k d)) refl (let b = r.0 in omega (arith, b)))

-- ---- bases

pub none_sorted : IsStrictlySortedBy span_cmp []
unfolding IsStrictlySortedBy
none_sorted = tt

pub based-joined : (n m k : ℕ) (ss ts : List Span) → AreBasedTo n ss m → AreBasedTo m ts k → AreBasedTo n (ss ++ ts) k
based-joined n m k [] ts h g = subst (λ z. AreBasedTo z ts k) (sym h) g
based-joined n m k (s ∷ ss) ts h g = (h.0, based-joined (n + s.count) m k ss ts h.1 g)

pub based-whole : (n m : ℕ) (ss : List Span) → AreBasedTo n ss m → AreBased n ss
based-whole n m [] h = tt
based-whole n m (s ∷ ss) h = (h.0, based-whole (n + s.count) m ss h.1)

based-le : (n m : ℕ) (ss : List Span) → AreBasedTo n ss m → n ≤ m
based-le n m [] h = omega (arith, h)
based-le n m (s ∷ ss) h = let ih = based-le (n + s.count) m ss h.1 in omega (arith, ih)

pub based-below : (n m : ℕ) (ss : List Span) → AreBasedTo n ss m → (s : Span) → Contains ss s → s.base + s.count ≤ m
based-below n m [] h s k = absurd (mem-nil s k)
based-below n m (t ∷ ss) h s k = elim (mem-cases s t ss k) [
  | inl e ↦ let le = based-le (n + t.count) m ss h.1 in let b = h.0 in subst (λ (u : Span). u.base + u.count ≤ m) e (omega (arith, le, b))
  | inr i ↦ based-below (n + t.count) m ss h.1 s i
]

pub variables-length : (n m : ℕ) (ss : List Span) → AreBasedTo n ss m → n + length (variables_of_spans ss) ≡ m
variables-length n m [] h = omega (arith, h)
variables-length n m (s ∷ ss) h =
    let ih = variables-length (n + s.count) m ss h.1 in
    let long = length-append (variables_in s) (variables_of_spans ss) in
    let here = length-map-range_with_len (at s.slot) s.start s.count in
    omega (arith, ih, long, here)

-- ---- whole blocks: the key of each slot's table, and its rows

module _ (key : ℕ → List ℕ) (rows : ℕ → List (List Value)) where
  abbrev pub IsWholeSpan : Span → Type 0
  IsWholeSpan s = IsWholeBlock (key s.slot) (rows s.slot) s

  -- the row of a variable
  abbrev pub row_of : Variable → List Value
  row_of x = get_or (rows x.slot) x.place []

  -- two rows of a slot are of one block
  abbrev pub SharesSlotBlock : Variable → Variable → Type 0
  SharesSlotBlock x y = (x.slot ≡ y.slot) × SharesKey (key x.slot) (row_of x) (row_of y)

  -- the numbers of the rows of a variable's block, rising
  abbrev pub IsSlotBlock : List Variable → Variable → List ℕ → Type 0
  IsSlotBlock variables x numbers = IsStrictlySortedBy nat_cmp numbers × ((n : ℕ) → Contains numbers n ↔ ((y : Variable) × HasNumber variables n y × SharesSlotBlock x y))

  -- of two blocks of a slot the one ends before the other begins
  pub apart : (s t : Span) → IsWholeSpan s → IsWholeSpan t → s.slot ≡ t.slot → s.start < t.start → s.start + s.count ≤ t.start
  apart s t hs ht e l = go (cases_le (s.start + s.count) t.start)
    where
      go : (s.start + s.count ≤ t.start) ⊎ (t.start < s.start + s.count) → s.start + s.count ≤ t.start
      go (inl h) = h
      go (inr h) =
          let w = hs.within in
          let some = hs.some in
          let sh : SharesKey (key s.slot) (row_of (at s.slot s.start)) (row_of (at s.slot t.start)) = (hs.block t.start (omega (arith, h, w))).1 (omega (arith, l), h) in
          let back = shares-sym (key s.slot) (row_of (at s.slot s.start)) (row_of (at s.slot t.start)) sh in
          let there : s.start < length (rows s.slot) = omega (arith, some, w) in
          let m = (ht.block s.start (subst (λ F. s.start < length (rows F)) e there)).0 (subst (λ F. SharesKey (key F) (row_of (at F t.start)) (row_of (at F s.start))) e back) in
          let m0 = m.0 in
          absurd (omega (arith, m0, l))

  span_before : (s t : Span) (x y : Variable) → IsWholeSpan s → IsWholeSpan t → span_cmp s t ≡ Less → IsInSpan s x → IsInSpan t y → variable_cmp x y ≡ Less
  span_before s t x y hs ht e ix iy = elim (then_cases (nat_cmp s.slot t.slot) (nat_cmp s.start t.start) e) [
    | inl a ↦ let l = from_less s.slot t.slot a in
        slot_less x y (subst (λ G. x.slot < G) (sym iy.0) (subst (λ G. G < t.slot) (sym ix.0) l))
    | inr b ↦ let ea = from_equal s.slot t.slot b.0 in
        let l = apart s t hs ht ea (from_less s.start t.start b.1) in
        let u = ix.2 in
        let v = iy.1 in
        place_less x y (ix.0 ∙ ea ∙ sym iy.0) (omega (arith, l, u, v))
  ]

  pub variables-sorted : (spans : List Span) → IsStrictlySortedBy span_cmp spans → ((s : Span) → Contains spans s → IsWholeSpan s) → IsStrictlySortedBy variable_cmp (variables_of_spans spans)
  unfolding IsStrictlySortedBy
  variables-sorted [] s h = tt
  variables-sorted (t ∷ ts) s h = sorted_join variable_cmp (variables_in t) (variables_of_spans ts) (run-sorted t.slot t.start t.count)
      (variables-sorted ts s.1 (λ u m. h u (mem-tail u t ts m)))
      (λ x y mx my. let p = in_variables ts y my in
      span_before t p.0 x y (h t (mem-head t ts)) (h p.0 (mem-tail p.0 t ts p.1)) (member_by_recursion (λ u. span_cmp t u ≡ Less) ts s.0 p.0 p.1) (in_run t x mx) p.2)

  pub stand_apart : (spans : List Span) → IsStrictlySortedBy span_cmp spans → ((s : Span) → Contains spans s → IsWholeSpan s) → AreSpansApart spans
  stand_apart spans in_order each i j s t l es et = go (then_cases (nat_cmp s.slot t.slot) (nat_cmp s.start t.start) less)
    where
      less : span_cmp s t ≡ Less
      less = subst (λ u. span_cmp u t ≡ Less) (get_or_from_slice_get spans i s s es)
          (subst (λ u. span_cmp (get_or spans i s) u ≡ Less) (get_or_from_slice_get spans j t s et) (Less-from_sorted span_cmp spans i j s in_order l (slice_get_within spans j t et)))

      go : (nat_cmp s.slot t.slot ≡ Less) ⊎ ((nat_cmp s.slot t.slot ≡ Equal) × (nat_cmp s.start t.start ≡ Less)) → IsEarlierSpan s t
      go (inl e) = let l = from_less s.slot t.slot e in (omega (arith, l), λ same. absurd (omega (arith, l, same)))
      go (inr e) =
          let same = from_equal s.slot t.slot e.0 in
          (omega (arith, same), λ _. apart s t (each s (Contains-slice_get spans i s es)) (each t (Contains-slice_get spans j t et)) same (from_less s.start t.start e.1))

  -- some whole blocks
  module _ (spans : List Span) (in_order : IsStrictlySortedBy span_cmp spans) (based : AreBased 0 spans) (each : (s : Span) → Contains spans s → IsWholeSpan s) where
    pub inside : (s : Span) → Contains spans s → (x : Variable) → IsInSpan s x → x.place < length (rows x.slot)
    inside s m x i =
        let w = (each s m).within in
        let u = i.2 in
        let l : x.place < length (rows s.slot) = omega (arith, w, u) in
        subst (λ F. x.place < length (rows F)) (sym i.0) l

    -- a row of the block shares the key of the first
    pub shares_first : (s : Span) → Contains spans s → (p : ℕ) → s.start ≤ p → p < s.start + s.count → SharesKey (key s.slot) (row_of (at s.slot s.start)) (row_of (at s.slot p))
    shares_first s m p l u = let w = (each s m).within in ((each s m).block p (omega (arith, u, w))).1 (l, u)

    number_in : (s : Span) → Contains spans s → (x : Variable) → IsInSpan s x → (n : ℕ) → HasNumber (variables_of_spans spans) n x → Contains (numbers_in s) n
    number_in s m x i n hn =
        let e : n ≡ suc (s.base + (x.place - s.start)) = same_number (variables_of_spans spans) (variables-sorted spans in_order each) n (suc (s.base + (x.place - s.start))) x hn (has_number spans based s m x i) in
        let l = i.1 in
        let u = i.2 in
        Contains-range (suc s.base) s.count n (omega (arith, e)) (omega (arith, e, l, u))

    block_at : (s : Span) → Contains spans s → (p : ℕ) → s.start ≤ p → p < s.start + s.count → IsSlotBlock (variables_of_spans spans) (at s.slot p) (numbers_in s)
    block_at s m p l u = (range_rises (suc s.base) s.count, λ n. (to n, from n))
      where
        to : (n : ℕ) → Contains (numbers_in s) n → (y : Variable) × HasNumber (variables_of_spans spans) n y × SharesSlotBlock (at s.slot p) y
        to n mn =
            let r = in_range (suc s.base) s.count n mn in
            let r0 = r.0 in
            let r1 = r.1 in
            let j = n - suc s.base in
            let lj : j < s.count = omega (arith, r0, r1) in
            let y = at s.slot (s.start + j) in
            let i : IsInSpan s y = (refl, omega arith, omega (arith, lj)) in
            let e : suc (s.base + ((s.start + j) - s.start)) ≡ n = omega (arith, r0) in (
              y,
              subst (λ k. HasNumber (variables_of_spans spans) k y) e (has_number spans based s m y i),
              (
                refl,
                shares-trans (key s.slot) (row_of (at s.slot p)) (row_of (at s.slot s.start)) (row_of y)
                    (shares-sym (key s.slot) (row_of (at s.slot s.start)) (row_of (at s.slot p)) (shares_first s m p l u)) (shares_first s m (s.start + j) i.1 i.2),
              ),
            )

        from : (n : ℕ) → ((y : Variable) × HasNumber (variables_of_spans spans) n y × SharesSlotBlock (at s.slot p) y) → Contains (numbers_in s) n
        from n (y, hn, sh) =
            let g = in_variables spans y (numbered (variables_of_spans spans) n y hn) in
            let is : y ≡ at s.slot y.place = as_at y s.slot (sym sh.0) in
            let there : y.place < length (rows s.slot) = subst (λ F. y.place < length (rows F)) (sym sh.0) (inside g.0 g.1 y g.2) in
            let shared : SharesKey (key s.slot) (row_of (at s.slot p)) (row_of (at s.slot y.place)) = subst (λ z. SharesKey (key s.slot) (row_of (at s.slot p)) (row_of z)) is sh.1 in
            let b = ((each s m).block y.place there).0 (shares-trans (key s.slot) (row_of (at s.slot s.start)) (row_of (at s.slot p)) (row_of (at s.slot y.place)) (shares_first s m p l u) shared) in
            number_in s m y (sym sh.0, b.0, b.1) n hn

    blocks-sorted : (n : ℕ) (ss : List Span) → AreBased n ss → ((s : Span) → Contains ss s → 0 < s.count) → IsStrictlySortedBy (slice_cmp nat_cmp) (map numbers_in ss)
    unfolding IsStrictlySortedBy
    blocks-sorted n [] b some = tt
    blocks-sorted n (s ∷ ss) b some = (
      recursion_from_All (λ c. slice_cmp nat_cmp (numbers_in s) c ≡ Less) (map numbers_in ss)
          (Rattle.std.proofs.lemmas.List.Elements.All-map (λ c. slice_cmp nat_cmp (numbers_in s) c ≡ Less) numbers_in ss
          (λ k d l. let t = get_or ss k d in
          let mt = Contains-get_or ss k d l in
          let low = base_from (n + s.count) ss b.1 (get_or ss k d) mt in
          let c = some s (mem-head s ss) in
          let sb = b.0 in
          first_less s.base s.count (get_or ss k d).base (get_or ss k d).count c (some (get_or ss k d) (mem-tail (get_or ss k d) s ss mt)) (omega (arith, low, c, sb)))),
      blocks-sorted (n + s.count) ss b.1 (λ t mt. some t (mem-tail t s ss mt)),
    )
      where
        first_less : (a m c k : ℕ) → 0 < m → 0 < k → a < c → slice_cmp nat_cmp (range_with_len (suc a) m) (range_with_len (suc c) k) ≡ Less
        first_less a zero c k lm lk l = absurd (omega (arith, lm))
        first_less a (suc m) c zero lm lk l = absurd (omega (arith, lk))
        first_less a (suc m) c (suc k) lm lk l = less_then (nat_cmp (suc a) (suc c)) (slice_cmp nat_cmp (range_with_len (suc a + 1) m) (range_with_len (suc c + 1) k)) (nat_cmp_less (suc a) (suc c) (omega (arith, l)))

    -- the numbers of the spans are the blocks of the variables
    pub are_slot_blocks : AreAllLists (λ numbers. (x : Variable) × Contains (variables_of_spans spans) x × IsSlotBlock (variables_of_spans spans) x numbers) (map numbers_in spans)
    are_slot_blocks = record {
      in_order = blocks-sorted 0 spans based (λ s m. (each s m).some);
      exactly = λ numbers. (λ m. of_span numbers (Contains-from_map numbers_in spans numbers m), λ b. of_block numbers b.0 b.2 (in_variables spans b.0 b.1));
    }
      where
        of_span : (numbers : List ℕ) → ((s : Span) × Contains spans s × (numbers_in s ≡ numbers)) → (x : Variable) × Contains (variables_of_spans spans) x × IsSlotBlock (variables_of_spans spans) x numbers
        of_span numbers (s, m, e) =
            let c = (each s m).some in
            let i : IsInSpan s (at s.slot s.start) = (refl, omega arith, omega (arith, c)) in
            subst (λ ns. (x : Variable) × Contains (variables_of_spans spans) x × IsSlotBlock (variables_of_spans spans) x ns) e (at s.slot s.start, of_variables spans s (at s.slot s.start) m i, block_at s m s.start i.1 i.2)

        of_block : (numbers : List ℕ) (x : Variable) → IsSlotBlock (variables_of_spans spans) x numbers → ((s : Span) × Contains spans s × IsInSpan s x) → Contains (map numbers_in spans) numbers
        of_block numbers x b (s, m, i) =
            let c : IsSlotBlock (variables_of_spans spans) x (numbers_in s) = subst (λ y. IsSlotBlock (variables_of_spans spans) y (numbers_in s)) (sym (as_at x s.slot i.0)) (block_at s m x.place i.1 i.2) in
            let same : numbers_in s ≡ numbers = one_sorted nat_cmp nat_cmp_total (numbers_in s) numbers c.0 b.0 (λ n k. (b.1 n).1 ((c.1 n).0 k)) (λ n k. (c.1 n).1 ((b.1 n).0 k)) in
            subst (Contains (map numbers_in spans)) same (Contains-map numbers_in spans s m)
