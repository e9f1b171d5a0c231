-- The full blocks of two atoms, and the formula that they give.
use Rattle.cqa_model.specs.declared.limits.TheConstants.{MOST_ROWS}
use Rattle.std.proofs.Common.{◌≡◌, ◌↔◌, ℕ, zero, suc, ◌<◌, ◌≤◌, ◌+◌, ◌-◌, ◌*◌, ◌⊎◌, inl, inr, List, [], ◌∷◌, ◌++◌, length, get_or, map, Option, Some, None, refl, sym, ◌∙◌, ap, subst, arith, Contains, slice_get, Bool, true, false, true≢false}
use native.Mathlib.Decide.{ℕ_discrete}
use Rattle.std.specs.List.Sorted.{IsStrictlySortedBy}
use Rattle.std.specs.Ordering.{nat_cmp}
use Rattle.std.proofs.lemmas.List.Elements.{Contains-append_left, Contains-append_right, Contains-append_cases, Contains-get_or}
use Rattle.cqa_value.specs.declared.value.Value.{Value}
use Rattle.cqa_model.specs.declared.query.Query.{Query}
use Rattle.cqa_model.specs.declared.query.RowId.{RowId}
use Rattle.cqa_model.specs.Database.{Table, IsDatabase, stored}
use Rattle.cqa_model.specs.Repairs.{SharesKey}
use Rattle.cqa_model.specs.Query.{atom_at, atom_key, rows_of, row_at, IsWitness, FitsDatabase}
use Rattle.cqa_model.specs.Certain.{IsCertain}
use Rattle.cqa_model.specs.Formula.{IsRelevant, Satisfies as RowsSatisfy}
use Rattle.cqa_model.proofs.Classic.{dec_both, mem-head, mem-nil, mem-cases}
use Rattle.cqa_model.proofs.Values.{dec_by, dec_not, row_discrete}
use Rattle.cqa_model.proofs.Repairs.{shares-self, shares-sym, shares-trans}
use Rattle.cqa_model.proofs.Databases as databases
use Rattle.cnf_form.specs.declared.formula.Lit.{Lit}
use Rattle.cnf_form.specs.Literals.{Satisfies, SatisfiesAll}
use Rattle.join_access.specs.Listing.{AreAllNames}
use Rattle.row_lists.specs.declared.span.Span.{Span}
use Rattle.row_lists.specs.Clauses.{Variable, HasNumber, variable_cmp, AreAllLists}
use Rattle.repair_clauses.specs.Clauses.{AreBlockNumbers, IsNumberOf, variable_row}
use Rattle.row_lists.specs.Spans.{at, IsInSpan, IsSpanNumbering, IsWholeBlock, span_cmp, AreBased, variables_of_spans, numbers_in}
use Rattle.repair_clauses.specs.Spans.{IsNamed, IsRelevantSpan}
use Rattle.row_witnesses.specs.Columns.{place_at}
use Rattle.row_witnesses.specs.Columns.{AreColumn}
use Rattle.cqa_value.proofs.Words.{Contains-map, Contains-from_map, Contains-range, dec_one_below, in_range, is_yes, nat_cmp_less, no_of, sorted_join, yes_of}
use Rattle.std.proofs.Math.Bool.{Bool-discrete}
use Rattle.row_lists.proofs.Rows.{numbered, number_below, dec_number}
use Rattle.row_lists.proofs.Order.{less_then}
use Rattle.row_lists.proofs.Spans.{in_variables, has_number, as_at, stand_apart, variables-sorted}
use Rattle.row_lists.proofs.Order.{same_number}
use Rattle.repair_clauses.proofs.Spans.{are_blocks}
use Rattle.row_lists.proofs.Spans.{based-joined, based-whole}
use Rattle.row_lists.proofs.Reading.{rows-few}
use Rattle.row_lists.proofs.Spans.{variables-length}
use Rattle.repair_clauses.proofs.Naming.{of_names}
use Rattle.repair_clauses.proofs.FreeRows as free
use Rattle.cqa_model.specs.Graph.{IsPair}
use Rattle.pair_refutation.specs.declared.graph.Pair.{Pair}
use Rattle.pair_refutation.specs.Graph.{positive, negative, not_both, graph_clauses, Meet, IsGraph}
use Rattle.pair_formula.specs.Full.{IsFullRun, AreFullOf, IsFullSpan, HasFreeRow, AreFullSpans, IsRowNumber, IsRowPair, AddsPairs}
use Rattle.pair_formula.proofs.Linked.{IsMet, graph-of}

module _ (q : Query) (db : List Table) (all : List (List RowId)) where
  of-run : (F : ℕ) → F < length q.atoms → (places : List ℕ) → AreColumn all F places → (s : Span) → IsFullRun (atom_key q F) (rows_of q (stored db) F) F places s → IsFullSpan q db all s
  of-run F l places c s r = record {
    there = subst (λ G. G < length q.atoms) (sym r.of_atom) l;
    whole = subst (λ G. IsWholeBlock (atom_key q G) (rows_of q (stored db) G) s) (sym r.of_atom) r.whole;
    full = λ p a b. subst (λ G. IsNamed all G p) (sym r.of_atom) (c.from p (r.full p (a, b)));
  }

  -- the blocks of both atoms
  pub full-joined : length q.atoms ≡ 2 → (first vars : ℕ) (spans more : List Span) → AreFullOf q db all 0 0 first spans → AreFullOf q db all 1 first vars more → vars ≤ 2 * MOST_ROWS →
      AreFullSpans q db all vars (spans ++ more)
  full-joined two first vars spans more (ps, c, h) (qs, d, k) small = record {
    in_order = sorted_join span_cmp spans more h.in_order k.in_order (λ s t ms mt.
        let es : s.slot ≡ 0 = (h.each s ms).of_atom in
        let et : t.slot ≡ 1 = (k.each t mt).of_atom in
        less_then (nat_cmp s.slot t.slot) (nat_cmp s.start t.start) (nat_cmp_less s.slot t.slot (omega (arith, es, et))));
    based = based-joined 0 first vars spans more h.based k.based;
    small = small;
    each = λ s m. elim (Contains-append_cases spans more s m) [
      | inl o ↦ of-run 0 (omega (arith, two)) ps c s (h.each s o)
      | inr o ↦ of-run 1 (omega (arith, two)) qs d s (k.each s o)
    ];
    every = every;
  }
    where
      every : (F p : ℕ) → F < length q.atoms → IsNamed all F p → ((s : Span) × Contains (spans ++ more) s × IsInSpan s (at F p)) ⊎ HasFreeRow q db all F p
      every zero p l (names, m, e) = elim (h.every p (subst (Contains ps) e (c.to names m))) [
        | inl s ↦ inl (s.0, Contains-append_left spans more s.0 s.1, (sym (h.each s.0 s.1).of_atom, s.2.0, s.2.1))
        | inr f ↦ inr (ps, c, f)
      ]
      every (suc zero) p l (names, m, e) = elim (k.every p (subst (Contains qs) e (d.to names m))) [
        | inl s ↦ inl (s.0, Contains-append_right spans more s.0 s.1, (sym (k.each s.0 s.1).of_atom, s.2.0, s.2.1))
        | inr f ↦ inr (qs, d, f)
      ]
      every (suc (suc F)) p l n = absurd (omega (arith, l, two))

module _ (q : Query) (db : List Table) (row : List Value) (all : List (List RowId)) (a : AreAllNames q db row all) (vars : ℕ) (spans : List Span) (h : AreFullSpans q db all vars spans) where
  named-row : (F p : ℕ) → F < length q.atoms → IsNamed all F p → (w : List (List Value)) × IsWitness q (stored db) row w × (p < length (rows_of q (stored db) F)) × (variable_row q db (at F p) ≡ row_at w F)
  named-row F p l (names, m, e) =
      let b = of_names q db row names ((a.exactly names).0 m) in
      let t = b.each F l in
      subst (λ r. (w : List (List Value)) × IsWitness q (stored db) row w × (r < length (rows_of q (stored db) F)) × (variable_row q db (at F r) ≡ row_at w F)) e (b.rows, b.witness, t.0, t.1)

  -- a full block is relevant
  pub span-is : (s : Span) → Contains spans s → IsRelevantSpan q db row s
  span-is s m = record { there = f.there; whole = f.whole; relevant = relevant }
    where
      f : IsFullSpan q db all s
      f = h.each s m

      relevant : IsRelevant q (stored db) row s.slot (variable_row q db (at s.slot s.start))
      relevant =
          let c = f.whole.some in
          let w = named-row s.slot s.start f.there (f.full s.start (omega arith) (omega (arith, c))) in
          (w.0, w.1, subst (λ x. SharesKey (atom_key q s.slot) (variable_row q db (at s.slot s.start)) x) w.3 (shares-self (atom_key q s.slot) (variable_row q db (at s.slot s.start))))

  pub full-numbering : IsDatabase db → IsSpanNumbering spans vars
  full-numbering d = record {
    apart = stand_apart (atom_key q) (rows_of q (stored db)) spans h.in_order (λ s m. (span-is s m).whole);
    based = h.based;
    few = let k = h.small in omega (arith, k);
    within = λ s m. let w = (h.each s m).whole.within in let t = rows-few db (atom_at q s.slot).table in let f = d.few_rows in omega (arith, w, t, f);
  }

  based : AreBased 0 spans
  based = based-whole 0 vars spans h.based

  abbrev variables : List Variable
  variables = variables_of_spans spans

  abbrev blocks : List (List ℕ)
  blocks = map numbers_in spans

  in_order : IsStrictlySortedBy variable_cmp variables
  in_order = variables-sorted (atom_key q) (rows_of q (stored db)) spans h.in_order (λ s m. (span-is s m).whole)

  blocks-are : AreAllLists (AreBlockNumbers q db variables) blocks
  blocks-are = are_blocks q db spans h.in_order based (λ s m. (span-is s m).whole)

  number-is : (F p n : ℕ) → IsRowNumber spans F p (Some n) → HasNumber variables n (at F p)
  number-is F p n (s, m, i, e) = subst (λ k. HasNumber variables k (at F p)) (sym e) (has_number spans based s m (at F p) i)

  is-number : (F p n : ℕ) → HasNumber variables n (at F p) → IsRowNumber spans F p (Some n)
  is-number F p n hn =
      let s = in_variables spans (at F p) (numbered variables n (at F p) hn) in
      (s.0, s.1, s.2, same_number variables in_order n (suc (s.0.base + (p - s.0.start))) (at F p) hn (has_number spans based s.0 s.1 (at F p) s.2))

  -- a row of a full block is stored
  stored-at : (F p n : ℕ) → HasNumber variables n (at F p) → p < length (rows_of q (stored db) F)
  stored-at F p n hn =
      let s = in_variables spans (at F p) (numbered variables n (at F p) hn) in
      let w = (h.each s.0 s.1).whole.within in
      let u = s.2.2 in
      subst (λ G. p < length (rows_of q (stored db) G)) (sym s.2.0) (let l : p < length (rows_of q (stored db) s.0.slot) = omega (arith, w, u) in l)

  module _ (fits : FitsDatabase q db) (d : IsDatabase db) (pair : IsPair q) (old new : List (List Lit)) (c : AddsPairs spans all old new) where
    two-atoms : (F : ℕ) → F < 2 → F < length q.atoms
    two-atoms F l = let t = pair.two in omega (arith, l, t)

    to-met : (x y : ℕ) → Meet c.pairs x y → IsMet q db row variables x y
    to-met x y m =
        let n = c.each (record { left = x; right = y }) m in
        let b = of_names q db row n.0 ((a.exactly n.0).0 n.1) in
        record {
          rows = b.rows;
          witness = b.witness;
          left = (at 0 (place_at n.0 0), number-is 0 (place_at n.0 0) x n.2.0, refl, (b.each 0 (two-atoms 0 (omega arith))).1);
          right = (at 1 (place_at n.0 1), number-is 1 (place_at n.0 1) y n.2.1, refl, (b.each 1 (two-atoms 1 (omega arith))).1);
        }

    -- the number of a witness's row is that of its name
    name-number : (w : List (List Value)) (i : ℕ) → free.IsNamed q db row all d a w i → (F n : ℕ) → F < length q.atoms → IsNumberOf q db variables F (row_at w F) n → IsRowNumber spans F (place_at (get_or all i []) F) (Some n)
    name-number w i (l, e) F n lF (y, hn, ya, ye) =
        let names = get_or all i [] in
        let b = of_names q db row names ((a.exactly names).0 (Contains-get_or all i [] l)) in
        let hp : HasNumber variables n (at F y.place) = subst (HasNumber variables n) (as_at y F ya) hn in
        let yr : variable_row q db (at F y.place) ≡ row_at w F = ap (variable_row q db) (sym (as_at y F ya)) ∙ ye in
        let same : y.place ≡ place_at names F = free.one_place q db row all d a F y.place (place_at names F) (stored-at F y.place n hp) (b.each F lF).0 (yr ∙ sym (e F lF)) in
        subst (λ p. IsRowNumber spans F p (Some n)) same (is-number F y.place n hp)

    to-meet : (x y : ℕ) → IsMet q db row variables x y → Meet c.pairs x y
    to-meet x y m = go (c.every names (Contains-get_or all i.0 [] i.1.0))
      where
        i : (k : ℕ) × free.IsNamed q db row all d a m.rows k
        i = free.named q db row all d a m.rows m.witness

        names : List RowId
        names = get_or all i.0 []

        mine : IsRowPair spans names (record { left = x; right = y })
        mine = (name-number m.rows i.0 i.1 0 x (two-atoms 0 (omega arith)) m.left, name-number m.rows i.0 i.1 1 y (two-atoms 1 (omega arith)) m.right)

        one : (F n k : ℕ) → IsRowNumber spans F (place_at names F) (Some n) → IsRowNumber spans F (place_at names F) (Some k) → n ≡ k
        one F n k hn hk = same_number variables in_order n k (at F (place_at names F)) (number-is F (place_at names F) n hn) (number-is F (place_at names F) k hk)

        go : ((p : Pair) × Contains c.pairs p × IsRowPair spans names p) ⊎ ((p : Pair) → IsRowPair spans names p → ⊥) → Meet c.pairs x y
        go (inr none) = absurd (none (record { left = x; right = y }) mine)
        go (inl (p, mp, is)) =
            let el : p.left ≡ x = one 0 p.left x is.0 mine.0 in
            let er : p.right ≡ y = one 1 p.right y is.1 mine.1 in
            let same : p ≡ (record { left = x; right = y }) = ap (λ l. record { left = l; right = p.right }) el ∙ ap (λ r. record { left = x; right = r }) er in
            subst (Contains c.pairs) same mp

    pub full-graph : IsGraph vars blocks c.pairs
    full-graph = subst (λ n. IsGraph n blocks c.pairs) (let e = variables-length 0 vars spans h.based in let k : length variables ≡ vars = omega (arith, e) in k)
        (graph-of db q row fits pair variables in_order blocks blocks-are c.pairs (λ x y. (to-met x y, to-meet x y)))

    -- ---- from rows to numbers

    abbrev value_at : (ℕ → List Value → Bool) → Option Variable → Bool
    value_at t None = false
    value_at t (Some y) = t y.slot (variable_row q db y)

    abbrev value_of : (ℕ → List Value → Bool) → ℕ → Bool
    value_of t zero = false
    value_of t (suc k) = value_at t (slice_get variables k)

    value_is : (t : ℕ → List Value → Bool) (n : ℕ) (y : Variable) → HasNumber variables n y → value_of t n ≡ t y.slot (variable_row q db y)
    value_is t zero y hn = absurd hn
    value_is t (suc k) y hn = ap (value_at t) hn

    module _ (t : ℕ → List Value → Bool) (s : RowsSatisfy q (stored db) row t) where
      span-true : (u : Span) → Contains spans u → Satisfies (value_of t) (map positive (numbers_in u))
      span-true u m = go (s.blocks u.slot f.there first (Contains-get_or (rows_of q (stored db) u.slot) u.start [] (let w = f.whole.within in let k = f.whole.some in omega (arith, w, k))) f.relevant)
        where
          f : IsRelevantSpan q db row u
          f = span-is u m

          first : List Value
          first = variable_row q db (at u.slot u.start)

          at-place : (j : ℕ) → j < length (rows_of q (stored db) u.slot) → SharesKey (atom_key q u.slot) first (variable_row q db (at u.slot j)) → t u.slot (variable_row q db (at u.slot j)) ≡ true → Satisfies (value_of t) (map positive (numbers_in u))
          at-place j l sh e =
              let b = (f.whole.block j l).0 sh in
              let x : Variable = at u.slot j in
              let b0 = b.0 in
              let b1 = b.1 in
              let n = suc (u.base + (j - u.start)) in
              (positive n, Contains-map positive (numbers_in u) n (Contains-range (suc u.base) u.count n (omega arith) (omega (arith, b0, b1))), value_is t n x (has_number spans based u m x (refl, b0, b1)) ∙ e)

          go : ((y : List Value) × Contains (rows_of q (stored db) u.slot) y × SharesKey (atom_key q u.slot) first y × (t u.slot y ≡ true)) → Satisfies (value_of t) (map positive (numbers_in u))
          go (y, my, sh, e) =
              let j = Rattle.row_lists.proofs.Numbers.place_of (rows_of q (stored db) u.slot) y my in
              let is : variable_row q db (at u.slot j.0) ≡ y = Rattle.std.proofs.lemmas.Option.get_or_from_slice_get (rows_of q (stored db) u.slot) j.0 y [] j.2 in
              at-place j.0 j.1 (subst (λ z. SharesKey (atom_key q u.slot) first z) (sym is) sh) (ap (t u.slot) is ∙ e)

      number-false : (F x : ℕ) (r : List Value) → IsNumberOf q db variables F r x → t F r ≡ false → value_of t x ≡ false
      number-false F x r (y, hn, ya, ye) e = value_is t x y hn ∙ (ap (λ G. t G (variable_row q db y)) ya ∙ (ap (t F) ye ∙ e))

      pair-false : (p : Pair) → Contains c.pairs p → Satisfies (value_of t) (not_both p)
      pair-false p m = go (s.witnesses w.rows w.witness)
        where
          w : IsMet q db row variables p.left p.right
          w = to-met p.left p.right m

          go : ((F : ℕ) × (F < length q.atoms) × (t F (row_at w.rows F) ≡ false)) → Satisfies (value_of t) (not_both p)
          go (zero, l, e) = (negative p.left, mem-head (negative p.left) (negative p.right ∷ []), number-false 0 p.left (row_at w.rows 0) w.left e)
          go (suc zero, l, e) = (negative p.right, (1, omega arith, refl), number-false 1 p.right (row_at w.rows 1) w.right e)
          go (suc (suc F), l, e) = let z = pair.two in absurd (omega (arith, l, z))

      numbers-satisfy : SatisfiesAll (value_of t) (graph_clauses blocks c.pairs)
      numbers-satisfy k m = elim (Contains-append_cases (map (map positive) blocks) (map not_both c.pairs) k m) [
        | inl b ↦ (let ns = Contains-from_map (map positive) blocks k b in let u = Contains-from_map numbers_in spans ns.0 ns.1 in
            subst (Satisfies (value_of t)) ns.2 (subst (λ z. Satisfies (value_of t) (map positive z)) u.2 (span-true u.0 u.1)))
        | inr b ↦ (let p = Contains-from_map not_both c.pairs k b in subst (Satisfies (value_of t)) p.2 (pair-false p.0 p.1))
      ]

    -- ---- from numbers to rows: out are the rows of witnesses that have no true number

    module _ (v : ℕ → Bool) (sat : SatisfiesAll v (graph_clauses blocks c.pairs)) where
      -- the row has a true number
      abbrev IsTrueRow : ℕ → List Value → Type 0
      IsTrueRow F x = (n : ℕ) × (n < 1 + length variables) × (IsNumberOf q db variables F x n × (v n ≡ true))

      dec_of : (F : ℕ) (x : List Value) (n : ℕ) → Dec (IsNumberOf q db variables F x n)
      dec_of F x n = dec_by (λ p. (p.0, p.1, p.2.0, p.2.1)) (λ p. (p.0, p.1, (p.2, p.3)))
          (dec_number variables (λ y. (y.slot ≡ F) × (variable_row q db y ≡ x)) (λ y. dec_both (ℕ_discrete y.slot F) (row_discrete (variable_row q db y) x)) n)

      dec_true : (F : ℕ) (x : List Value) → Dec (IsTrueRow F x)
      dec_true F x = dec_one_below (λ n. IsNumberOf q db variables F x n × (v n ≡ true)) (λ n. dec_both (dec_of F x n) (Bool-discrete (v n) true)) (1 + length variables)

      -- one of the witnesses has the row
      abbrev IsInSome : ℕ → List Value → Type 0
      IsInSome F x = (i : ℕ) × (i < length all) × (variable_row q db (at F (place_at (get_or all i []) F)) ≡ x)

      dec_in : (F : ℕ) (x : List Value) → Dec (IsInSome F x)
      dec_in F x = dec_one_below (λ i. variable_row q db (at F (place_at (get_or all i []) F)) ≡ x) (λ i. row_discrete (variable_row q db (at F (place_at (get_or all i []) F))) x) (length all)

      abbrev IsOut : ℕ → List Value → Type 0
      IsOut F x = IsInSome F x × (IsTrueRow F x → ⊥)

      dec_out : (F : ℕ) (x : List Value) → Dec (IsOut F x)
      dec_out F x = dec_both (dec_in F x) (dec_not (dec_true F x))

      abbrev stays : ℕ → List Value → Bool
      stays F x = is_yes (dec_not (dec_out F x))

      abbrev Stays : ℕ → List Value → Type 0
      Stays F x = (y : List Value) × Contains (rows_of q (stored db) F) y × SharesKey (atom_key q F) x y × (stays F y ≡ true)

      -- a row of the block of each full block's first row is true
      in-span : (F : ℕ) (x : List Value) (u : Span) → Contains spans u → F ≡ u.slot → SharesKey (atom_key q F) x (variable_row q db (at F u.start)) → Stays F x
      in-span F x u m ea sh = go (sat (map positive (numbers_in u)) (Contains-append_left (map (map positive) blocks) (map not_both c.pairs) (map positive (numbers_in u)) (Contains-map (map positive) blocks (numbers_in u) (Contains-map numbers_in spans u m))))
        where
          f : IsRelevantSpan q db row u
          f = span-is u m

          at-number : (n : ℕ) → Contains (numbers_in u) n → v n ≡ true → Stays F x
          at-number n mn e =
              let r = in_range (suc u.base) u.count n mn in
              let r0 = r.0 in
              let r1 = r.1 in
              let w = f.whole.within in
              let j = n - suc u.base in
              let lj : j < u.count = omega (arith, r0, r1) in
              let p = u.start + j in
              let inside : p < length (rows_of q (stored db) u.slot) = omega (arith, lj, w) in
              let i : IsInSpan u (at F p) = (ea, omega arith, omega (arith, lj)) in
              let en : suc (u.base + (p - u.start)) ≡ n = omega (arith, r0) in
              let hn : HasNumber variables n (at F p) = subst (λ k. HasNumber variables k (at F p)) en (has_number spans based u m (at F p) i) in
              let y = variable_row q db (at F p) in
              let near : SharesKey (atom_key q F) (variable_row q db (at F u.start)) y = subst (λ G. SharesKey (atom_key q G) (variable_row q db (at G u.start)) (variable_row q db (at G p))) (sym ea) ((f.whole.block p inside).1 (omega arith, omega (arith, lj))) in (
                y,
                Contains-get_or (rows_of q (stored db) F) p [] (subst (λ G. p < length (rows_of q (stored db) G)) (sym ea) inside),
                shares-trans (atom_key q F) x (variable_row q db (at F u.start)) y sh near,
                yes_of (dec_not (dec_out F y)) (λ o. o.1 (n, (number_below variables n (at F p) hn).1, ((at F p, hn, refl, refl), e))),
              )

          go : ((l : Lit) × Contains (map positive (numbers_in u)) l × (v l.var ≡ l.positive)) → Stays F x
          go (l, ml, e) = let n = Contains-from_map positive (numbers_in u) l ml in at-number n.0 n.1 (subst (λ (z : Lit). v z.var ≡ z.positive) (sym n.2) e)

      -- so is a row that is in no witness
      by-free : (F p : ℕ) → F < length q.atoms → (x : List Value) → SharesKey (atom_key q F) x (variable_row q db (at F p)) → HasFreeRow q db all F p → Stays F x
      by-free F p lF x sh (places, col, f) = (
        variable_row q db (at F f.free),
        Contains-get_or (rows_of q (stored db) F) f.free [] f.there,
        shares-trans (atom_key q F) x (variable_row q db (at F p)) (variable_row q db (at F f.free)) sh f.shares,
        yes_of (dec_not (dec_out F (variable_row q db (at F f.free)))) (λ o. none o.0),
      )
        where
          none : IsInSome F (variable_row q db (at F f.free)) → ⊥
          none (i, l, e) =
              let names = get_or all i [] in
              let m : Contains all names = Contains-get_or all i [] l in
              let b = of_names q db row names ((a.exactly names).0 m) in
              let same : place_at names F ≡ f.free = free.one_place q db row all d a F (place_at names F) f.free (b.each F lF).0 f.there e in
              f.apart (subst (Contains places) same (col.to names m))

      block-stays : (F : ℕ) → F < length q.atoms → (x : List Value) → IsRelevant q (stored db) row F x → Stays F x
      block-stays F lF x (w, hw, sh) = go (h.every F p lF (names, Contains-get_or all i.0 [] i.1.0, refl))
        where
          i : (k : ℕ) × free.IsNamed q db row all d a w k
          i = free.named q db row all d a w hw

          names : List RowId
          names = get_or all i.0 []

          p : ℕ
          p = place_at names F

          here : SharesKey (atom_key q F) x (variable_row q db (at F p))
          here = subst (λ z. SharesKey (atom_key q F) x z) (sym (i.1.1 F lF)) sh

          first : (u : Span) → Contains spans u → IsInSpan u (at F p) → SharesKey (atom_key q u.slot) (variable_row q db (at u.slot u.start)) (variable_row q db (at u.slot p))
          first u m g = let f = span-is u m in let w = f.whole.within in let g2 = g.2 in (f.whole.block p (omega (arith, w, g2))).1 (g.1, g.2)

          go : ((s : Span) × Contains spans s × IsInSpan s (at F p)) ⊎ HasFreeRow q db all F p → Stays F x
          go (inl (u, m, g)) =
              let k : SharesKey (atom_key q F) (variable_row q db (at F u.start)) (variable_row q db (at F p)) = subst (λ G. SharesKey (atom_key q G) (variable_row q db (at G u.start)) (variable_row q db (at G p))) (sym g.0) (first u m g) in
              in-span F x u m g.0 (shares-trans (atom_key q F) x (variable_row q db (at F p)) (variable_row q db (at F u.start)) here (shares-sym (atom_key q F) (variable_row q db (at F u.start)) (variable_row q db (at F p)) k))
          go (inr f) = by-free F p lF x here f

      is-out : (w : List (List Value)) → IsWitness q (stored db) row w → (F : ℕ) → F < length q.atoms → (IsTrueRow F (row_at w F) → ⊥) → stays F (row_at w F) ≡ false
      is-out w hw F lF n = let i = free.named q db row all d a w hw in no_of (dec_not (dec_out F (row_at w F))) (λ f. f ((i.0, i.1.0, i.1.1 F lF), n))

      both-true : (x y : ℕ) → Meet c.pairs x y → v x ≡ true → v y ≡ true → ⊥
      both-true x y m tx ty = of (sat (not_both (record { left = x; right = y })) (Contains-append_right (map (map positive) blocks) (map not_both c.pairs) (not_both (record { left = x; right = y })) (Contains-map not_both c.pairs (record { left = x; right = y }) m)))
        where
          of : ((l : Lit) × Contains (negative x ∷ negative y ∷ []) l × (v l.var ≡ l.positive)) → ⊥
          of (l, k, e) = elim (mem-cases l (negative x) (negative y ∷ []) k) [
            | inl o ↦ true≢false (sym tx ∙ subst (λ (z : Lit). v z.var ≡ z.positive) (sym o) e)
            | inr k2 ↦ elim (mem-cases l (negative y) [] k2) [
              | inl o ↦ true≢false (sym ty ∙ subst (λ (z : Lit). v z.var ≡ z.positive) (sym o) e)
              | inr j ↦ mem-nil l j
            ]
          ]

      witness-out : (w : List (List Value)) → IsWitness q (stored db) row w → (F : ℕ) × (F < length q.atoms) × (stays F (row_at w F) ≡ false)
      witness-out w hw = go (dec_true 0 (row_at w 0)) (dec_true 1 (row_at w 1))
        where
          go : Dec (IsTrueRow 0 (row_at w 0)) → Dec (IsTrueRow 1 (row_at w 1)) → (F : ℕ) × (F < length q.atoms) × (stays F (row_at w F) ≡ false)
          go (no n) o = (0, two-atoms 0 (omega arith), is-out w hw 0 (two-atoms 0 (omega arith)) n)
          go (yes p) (no n) = (1, two-atoms 1 (omega arith), is-out w hw 1 (two-atoms 1 (omega arith)) n)
          go (yes p) (yes r) = absurd (both-true p.0 r.0 (to-meet p.0 r.0 (record { rows = w; witness = hw; left = p.2.0; right = r.2.0 })) p.2.1 r.2.1)

      rows-satisfy : RowsSatisfy q (stored db) row stays
      rows-satisfy = record { blocks = λ F l x m rel. block-stays F l x rel; witnesses = witness-out }

    -- no assignment satisfies the formula exactly where the row is certain
    pub full-decides : ((v : ℕ → Bool) → SatisfiesAll v (graph_clauses blocks c.pairs) → ⊥) ↔ IsCertain db q row
    full-decides = (
      λ none. (databases.formula_is_exact db q row fits).1 (λ t s. none (value_of t) (numbers-satisfy t s)),
      λ certain v sat. (databases.formula_is_exact db q row fits).0 certain (stays v sat) (rows-satisfy v sat),
    )
