-- Rows that are numbered, each by a span of its own.
use Rattle.cqa_model.specs.declared.limits.TheConstants.{MOST_TABLES, MOST_ROWS}
use Rattle.std.proofs.Common.{◌*◌, ◌≡◌, ℕ, zero, suc, ◌<◌, ◌≤◌, ◌+◌, ◌-◌, ◌⊎◌, inl, inr, List, [], ◌∷◌, ◌++◌, length, get_or, Some, None, refl, sym, ◌∙◌, ap, subst, arith, Contains, slice_get, length-append, Less}
use Rattle.std.specs.List.Sorted.{IsStrictlySortedBy}
use Rattle.std.proofs.lemmas.Option.{get_or_from_slice_get, slice_get_within, slice_get-get_or, same_Some}
use Rattle.std.proofs.lemmas.Bool.{cases_lt}
use Rattle.cqa_value.proofs.Words.{Contains-slice_get, cases_next}
use Rattle.row_lists.specs.declared.span.Span.{Span}
use Rattle.row_lists.specs.Clauses.{Variable, variable_cmp}
use Rattle.row_lists.specs.Spans.{at, IsInSpan, IsAt, IsEarlierSpan, IsSpanNumbering, AreSpansApart, AreBased, AreBasedTo, variables_of_spans}
use Rattle.list_search.specs.Classing.{AreSingle, AreNumberedBySpans, rows_from}
use Rattle.join_access.proofs.Sorted.{sorted-from}
use Rattle.row_lists.proofs.Numbers.{place_of}
use Rattle.row_lists.proofs.Order.{slot_less, place_less}
use Rattle.row_lists.proofs.Spans.{has_number, variables-length}

-- ---- spans of one row each

based-from : (n : ℕ) (spans : List Span) → ((k : ℕ) (s : Span) → slice_get spans k ≡ Some s → (s.count ≡ 1) × (s.base ≡ n + k)) → AreBased n spans
based-from n [] h = tt
based-from n (s ∷ ss) h =
    let first = h 0 s refl in
    let one = first.0 in
    let base = first.1 in
    let next : suc n ≡ n + s.count = omega (arith, one) in
    (omega (arith, base), subst (λ m. AreBased m ss) next (based-from (suc n) ss (λ k t e. let b = h (suc k) t e in let i = b.1 in (b.0, omega (arith, i)))))

based-to : (n : ℕ) (spans : List Span) → ((k : ℕ) (s : Span) → slice_get spans k ≡ Some s → (s.count ≡ 1) × (s.base ≡ n + k)) → (m : ℕ) → m ≡ n + length spans → AreBasedTo n spans m
based-to n [] h m e = omega (arith, e)
based-to n (s ∷ ss) h m e =
    let first = h 0 s refl in
    let one = first.0 in
    let base = first.1 in
    let next : suc n ≡ n + s.count = omega (arith, one) in
    (omega (arith, base), subst (λ j. AreBasedTo j ss m) next (based-to (suc n) ss (λ k t e. let b = h (suc k) t e in let i = b.1 in (b.0, omega (arith, i))) m (omega (arith, e))))

module _ (spans : List Span) (h : AreSingle spans) where
  pub based : AreBased 0 spans
  based = based-from 0 spans (λ k s e. let b = h.each k s e in let i = b.1 in (b.0, omega (arith, i)))

  pub long : length (variables_of_spans spans) ≡ length spans
  long = let e = variables-length 0 (length spans) spans (based-to 0 spans (λ k s e. let b = h.each k s e in let i = b.1 in (b.0, omega (arith, i))) (length spans) (omega arith)) in omega (arith, e)

  pub variable : (k : ℕ) (s : Span) → slice_get spans k ≡ Some s → slice_get (variables_of_spans spans) k ≡ Some (at s.slot s.start)
  variable k s e =
      let one = (h.each k s e).0 in
      let base = (h.each k s e).1 in
      let i : s.base + (s.start - s.start) ≡ k = omega (arith, base) in
      subst (λ j. slice_get (variables_of_spans spans) j ≡ Some (at s.slot s.start)) i (has_number spans based s (Contains-slice_get spans k s e) (at s.slot s.start) (refl, omega arith, omega (arith, one)))

  pub span_at : (k : ℕ) (x : Variable) → slice_get (variables_of_spans spans) k ≡ Some x → (s : Span) × (slice_get spans k ≡ Some s) × (at s.slot s.start ≡ x)
  span_at k x e =
      let l = slice_get_within (variables_of_spans spans) k x e in
      let same = long in
      let s = get_or spans k (record { slot = 0; start = 0; count = 0; base = 0 }) in
      let es = slice_get-get_or spans k (record { slot = 0; start = 0; count = 0; base = 0 }) (omega (arith, l, same)) in
      (s, es, same_Some (at s.slot s.start) x (sym (variable k s es) ∙ e))

  before_less : (s t : Span) → s.count ≡ 1 → IsEarlierSpan s t → variable_cmp (at s.slot s.start) (at t.slot t.start) ≡ Less
  before_less s t one b = elim (cases_lt s.slot t.slot) [
    | inl l ↦ slot_less (at s.slot s.start) (at t.slot t.start) l
    | inr u ↦ let le = b.0 in
        let same : s.slot ≡ t.slot = omega (arith, le, u) in
        let ends = b.1 same in
        place_less (at s.slot s.start) (at t.slot t.start) same (omega (arith, one, ends))
  ]

  pub rising : IsStrictlySortedBy variable_cmp (variables_of_spans spans)
  rising = sorted-from variable_cmp (variables_of_spans spans) (at 0 0) (λ i j l lj.
      let same = long in
      let none : Span = record { slot = 0; start = 0; count = 0; base = 0 } in
      let es = slice_get-get_or spans i none (omega (arith, l, lj, same)) in
      let et = slice_get-get_or spans j none (omega (arith, lj, same)) in
      let s = get_or spans i none in
      let t = get_or spans j none in
      let less = before_less s t (h.each i s es).0 (h.apart i j s t l es et) in
      subst (λ x. variable_cmp x (get_or (variables_of_spans spans) j (at 0 0)) ≡ Less) (sym (get_or_from_slice_get (variables_of_spans spans) i (at s.slot s.start) (at 0 0) (variable i s es)))
      (subst (λ y. variable_cmp (at s.slot s.start) y ≡ Less) (sym (get_or_from_slice_get (variables_of_spans spans) j (at t.slot t.start) (at 0 0) (variable j t et))) less))

-- the row of a span has the span's number
pub stands : (spans : List Span) → AreSingle spans → (F p k : ℕ) → IsAt spans F p k → slice_get (variables_of_spans spans) k ≡ Some (at F p)
stands spans h F p k (s, e, i) =
    let one = (h.each k s e).0 in
    let low = i.1 in
    let high = i.2 in
    let place : s.start ≡ p = omega (arith, one, low, high) in
    subst (λ G. slice_get (variables_of_spans spans) k ≡ Some (at G p)) (sym i.0) (subst (λ r. slice_get (variables_of_spans spans) k ≡ Some (at s.slot r)) place (variable spans h k s e))

-- the span of a number covers its row
pub held : (spans : List Span) → AreSingle spans → (F p k : ℕ) → slice_get (variables_of_spans spans) k ≡ Some (at F p) → IsAt spans F p k
held spans h F p k e =
    let s = span_at spans h k (at F p) e in
    let one = (h.each k s.0 s.1).0 in
    let place = ap (λ (x : Variable). x.place) s.2 in
    (s.0, s.1, (sym (ap (λ (x : Variable). x.slot) s.2), omega (arith, place), omega (arith, one, place)))

-- single spans are a numbering
pub numbering : (P : ℕ → ℕ → Type 0) (spans : List Span) → AreNumberedBySpans P spans → ((s p : ℕ) → P s p → p < MOST_ROWS) → (m : ℕ) → m ≡ length spans → IsSpanNumbering spans m
numbering P spans h there m e = record {
  apart = h.single.apart;
  based = based-to 0 spans (λ k s g. let b = h.single.each k s g in let i = b.1 in (b.0, omega (arith, i))) m (omega (arith, e));
  few = let f = h.single.few in omega (arith, e, f);
  within = λ s k. let i = place_of spans s k in
      let one = (h.single.each i.0 s i.2).0 in
      let l = there s.slot s.start (h.from s k) in
      omega (arith, one, l);
}

-- ---- one slot more

-- an item of joined lists is one of either
split : {A : Type 0} (xs ys : List A) (k : ℕ) (x : A) → slice_get (xs ++ ys) k ≡ Some x → ((k < length xs) × (slice_get xs k ≡ Some x)) ⊎ ((j : ℕ) × (k ≡ length xs + j) × (slice_get ys j ≡ Some x))
split [] ys k x e = inr (k, omega arith, e)
split (z ∷ xs) ys zero x e = inl (omega arith, e)
split (z ∷ xs) ys (suc k) x e = elim (split xs ys k x e) [
  | inl o ↦ let l = o.0 in inl (omega (arith, l), o.1)
  | inr o ↦ let i = o.1 in inr (o.0, omega (arith, i), o.2)
]

abbrev pub row_from : ℕ → ℕ → ℕ → Span
row_from F n p = record { slot = F; start = p; count = 1; base = n }

from_row : (F n : ℕ) (ps : List ℕ) (j : ℕ) (s : Span) → slice_get (rows_from F n ps) j ≡ Some s → (p : ℕ) × (slice_get ps j ≡ Some p) × (row_from F (n + j) p ≡ s)
from_row F n [] j s e = absurd (let none : None ≡ Some s = e in cc none)
from_row F n (p ∷ ps) zero s e = (p, refl, ap (λ b. row_from F b p) (let z : n + 0 ≡ n = omega arith in z) ∙ same_Some (row_from F n p) s e)
from_row F n (p ∷ ps) (suc j) s e =
    let ih = from_row F (suc n) ps j s e in
    (ih.0, ih.1, ap (λ b. row_from F b ih.0) (let z : n + suc j ≡ suc n + j = omega arith in z) ∙ ih.2)

to_row : (F n : ℕ) (ps : List ℕ) (j p : ℕ) → slice_get ps j ≡ Some p → slice_get (rows_from F n ps) j ≡ Some (row_from F (n + j) p)
to_row F n [] j p e = absurd (let none : None ≡ Some p = e in cc none)
to_row F n (r ∷ ps) zero p e = ap Some (ap (λ b. row_from F b r) (let z : n ≡ n + 0 = omega arith in z) ∙ ap (row_from F (n + 0)) (same_Some r p e))
to_row F n (r ∷ ps) (suc j) p e = to_row F (suc n) ps j p e ∙ ap (λ b. Some (row_from F b p)) (let z : suc n + j ≡ n + suc j = omega arith in z)

pub rows-long : (F n : ℕ) (ps : List ℕ) → length (rows_from F n ps) ≡ length ps
rows-long F n [] = refl
rows-long F n (p ∷ ps) = ap suc (rows-long F (suc n) ps)

pub rows-push : (F n : ℕ) (ps : List ℕ) (p : ℕ) → rows_from F n (ps ++ p ∷ []) ≡ rows_from F n ps ++ row_from F (n + length ps) p ∷ []
rows-push F n [] p = ap (λ b. row_from F b p ∷ []) (let z : n ≡ n + 0 = omega arith in z)
rows-push F n (r ∷ ps) p = ap (λ ss. row_from F n r ∷ ss) (rows-push F (suc n) ps p ∙ ap (λ b. rows_from F (suc n) ps ++ row_from F b p ∷ []) (let z : suc n + length ps ≡ n + suc (length ps) = omega arith in z))

module _ (Named : ℕ → ℕ → Type 0) (F : ℕ) (old : List Span) (h : AreNumberedBySpans (λ s p. (s < F) × Named s p) old) (ps : List ℕ) (in_order : (i j : ℕ) → i < j → j < length ps → get_or ps i 0 < get_or ps j 0)
    (from : (p : ℕ) → Contains ps p → Named F p) (to : (p : ℕ) → Named F p → Contains ps p) (few : length old + length ps ≤ MOST_TABLES * MOST_ROWS) where
  abbrev pub new : List Span
  new = old ++ rows_from F (length old) ps

  single_each : (k : ℕ) (t : Span) → slice_get new k ≡ Some t → (t.count ≡ 1) × (t.base ≡ k)
  single_each k t e = elim (split old (rows_from F (length old) ps) k t e) [
    | inl o ↦ h.single.each k t o.1
    | inr o ↦ let r = from_row F (length old) ps o.0 t o.2 in
        let b : t.base ≡ length old + o.0 = ap (λ (u : Span). u.base) (sym r.2) in
        let k_is = o.1 in
        (ap (λ (u : Span). u.count) (sym r.2), omega (arith, b, k_is))
  ]

  apart_new : AreSpansApart new
  apart_new i j u v l eu ev = go (split old (rows_from F (length old) ps) i u eu) (split old (rows_from F (length old) ps) j v ev)
    where
      go : ((i < length old) × (slice_get old i ≡ Some u)) ⊎ ((a : ℕ) × (i ≡ length old + a) × (slice_get (rows_from F (length old) ps) a ≡ Some u)) →
          ((j < length old) × (slice_get old j ≡ Some v)) ⊎ ((b : ℕ) × (j ≡ length old + b) × (slice_get (rows_from F (length old) ps) b ≡ Some v)) → IsEarlierSpan u v
      go (inl o) (inl p) = h.single.apart i j u v l o.1 p.1
      go (inl o) (inr p) =
          let r = from_row F (length old) ps p.0 v p.2 in
          let b = (h.from u (Contains-slice_get old i u o.1)).0 in
          subst (IsEarlierSpan u) r.2 (omega (arith, b), λ same. absurd (omega (arith, b, same)))
      go (inr o) (inl p) = let i_is = o.1 in let high = p.0 in absurd (omega (arith, i_is, high, l))
      go (inr o) (inr p) =
          let r = from_row F (length old) ps o.0 u o.2 in
          let t = from_row F (length old) ps p.0 v p.2 in
          let i_is = o.1 in
          let j_is = p.1 in
          let within = slice_get_within ps p.0 t.0 t.1 in
          let less = in_order o.0 p.0 (omega (arith, i_is, j_is, l)) within in
          let eu = get_or_from_slice_get ps o.0 r.0 0 r.1 in
          let ev = get_or_from_slice_get ps p.0 t.0 0 t.1 in
          subst (λ (w : Span). IsEarlierSpan w v) r.2 (subst (λ (w : Span). IsEarlierSpan (row_from F (length old + o.0) r.0) w) t.2 (omega arith, λ _. omega (arith, less, eu, ev)))

  pub numbered-more : AreNumberedBySpans (λ s p. (s < F + 1) × Named s p) new
  numbered-more = record {
    single = record {
      few = let e = length-append old (rows_from F (length old) ps) in let l = rows-long F (length old) ps in omega (arith, few, e, l);
      each = single_each;
      apart = apart_new;
    };
    from = λ t m. let k = place_of new t m in elim (split old (rows_from F (length old) ps) k.0 t k.2) [
      | inl o ↦ let b = h.from t (Contains-slice_get old k.0 t o.1) in let l = b.0 in (omega (arith, l), b.1)
      | inr o ↦ let r = from_row F (length old) ps o.0 t o.2 in
          subst (λ (u : Span). (u.slot < F + 1) × Named u.slot u.start) r.2 (omega arith, from r.0 (Contains-slice_get ps o.0 r.0 r.1))
    ];
    to = λ G p b. go G p b.1 (cases_next G F b.0);
  }
    where
      go : (G p : ℕ) → Named G p → (G < F) ⊎ (G ≡ F) → (t : Span) × Contains new t × IsInSpan t (at G p)
      go G p named (inl l) = let t = h.to G p (l, named) in (t.0, Rattle.std.proofs.lemmas.List.Elements.Contains-append_left old (rows_from F (length old) ps) t.0 t.1, t.2)
      go G p named (inr e) =
          let k = place_of ps p (to p (subst (λ H. Named H p) e named)) in
          let t = row_from F (length old + k.0) p in (
            t,
            Rattle.std.proofs.lemmas.List.Elements.Contains-append_right old (rows_from F (length old) ps) t (Contains-slice_get (rows_from F (length old) ps) k.0 t (to_row F (length old) ps k.0 p k.2)),
            (e, omega arith, omega arith),
          )
