-- The relevant blocks of lists, slot by slot, and the formula that they give.
use Rattle.cqa_model.specs.declared.limits.TheConstants.{MOST_TABLES, MOST_ROWS}
use Rattle.std.proofs.Common.{◌*◌, ◌≡◌, ℕ, ◌<◌, ◌≤◌, ◌+◌, ◌⊎◌, inl, inr, List, [], ◌++◌, length, get_or, map, refl, sym, ◌∙◌, ap, subst, arith, Contains}
use Rattle.std.specs.Ordering.{nat_cmp}
use Rattle.std.proofs.lemmas.List.Elements.{Contains-append_left, Contains-append_right, Contains-append_cases, Contains-get_or}
use Rattle.std.proofs.lemmas.Option.{get_or_from_slice_get}
use Rattle.cqa_value.specs.declared.value.Value.{Value}
use Rattle.cqa_value.proofs.Words.{nat_cmp_less, cases_next, sorted_join}
use Rattle.cqa_model.specs.declared.query.RowId.{RowId}
use Rattle.cqa_model.specs.Database.{Table, IsDatabase}
use Rattle.cqa_model.specs.Repairs.{SharesKey}
use Rattle.cqa_model.proofs.Classic.{mem-nil}
use Rattle.cqa_model.proofs.Repairs.{shares-sym, shares-trans}
use Rattle.table_blocks.specs.Tables.{rows_at, key_at}
use Rattle.join_access.proofs.Naming.{same-name}
use Rattle.row_lists.specs.declared.span.Span.{Span}
use Rattle.row_lists.specs.Clauses.{Variable, AreAllLists}
use Rattle.row_lists.specs.Lists.{name, named, IsIn, IsStored, AreStoredLists}
use Rattle.row_lists.specs.Formulas.{table_at, name_in, IsFrame, IsRelevantTo, AreVariables, IsBlock}
use Rattle.row_lists.specs.Frames.{AreTablePlaces}
use Rattle.row_lists.specs.Encodings.{IsListSpan, AreListSpansTo}
use Rattle.row_lists.specs.Spans.{at, Covers, IsInSpan, IsWholeBlock, IsSpanNumbering, span_cmp, variables_of_spans, numbers_in}
use Rattle.row_lists.specs.Runs.{AreRowPlaces, IsRun, AreRuns}
use Rattle.row_lists.proofs.Numbers.{place_of}
use Rattle.row_lists.proofs.Rows.{numbered}
use Rattle.row_lists.proofs.Order.{less_then}
use Rattle.row_lists.proofs.Words.{block-sym, block-trans}
use Rattle.row_lists.proofs.Spans.{none_sorted, based-joined, based-whole, in_variables, of_variables, variables-sorted, stand_apart, inside, shares_first, are_slot_blocks, IsSlotBlock, as_at}
use Rattle.row_lists.proofs.Reading.{rows-few}

module _ (db : List Table) (frame : List ℕ) where
  -- the key of a slot's table, and its rows
  abbrev pub slot_key : ℕ → List ℕ
  slot_key s = key_at db (table_at frame s)

  abbrev pub slot_rows : ℕ → List (List Value)
  slot_rows s = rows_at db (table_at frame s)

module _ (db : List Table) (frame : List ℕ) (lists : List (List RowId)) where
  pub list-spans-none : AreListSpansTo db frame lists 0 0 []
  list-spans-none = record {
    in_order = none_sorted;
    based = refl;
    each = λ s m. absurd (mem-nil s m);
    every = λ x l. absurd (omega (arith, l));
  }

  -- the places of a table are those of rows
  pub are_places : AreStoredLists db lists → (table : ℕ) (places : List ℕ) → AreTablePlaces lists table places → AreRowPlaces (rows_at db table) places
  are_places stored table places h = record {
    in_order = h.in_order;
    there = λ i l. (stored (name table (get_or places i 0)) ((h.exactly (get_or places i 0)).0 (Contains-get_or places i 0 l))).1;
  }

  -- the blocks of one more slot
  module _ (n m k : ℕ) (spans runs : List Span) (h : AreListSpansTo db frame lists n m spans) (here : n < length frame) (column : List ℕ) (c : AreTablePlaces lists (table_at frame n) column)
      (r : AreRuns (slot_key db frame n) (slot_rows db frame n) n m column k runs) where
    of_run : (s : Span) → IsRun (slot_key db frame n) (slot_rows db frame n) n column s → IsListSpan db frame lists s
    of_run s g = record {
      there = subst (λ F. F < length frame) (sym g.of_slot) here;
      whole = subst (λ F. IsWholeBlock (slot_key db frame F) (slot_rows db frame F) s) (sym g.of_slot) g.whole;
      relevant = subst (λ F. IsRelevantTo db lists (name_in frame (at F s.start))) (sym g.of_slot) relevant;
    }
      where
        relevant : IsRelevantTo db lists (name (table_at frame n) s.start)
        relevant =
            let i = g.met in
            let p = get_or column i.0 0 in
            let w = g.whole.within in
            let u = i.2.1 in
            (name (table_at frame n) p, (c.exactly p).0 (Contains-get_or column i.0 0 i.1), (refl, (g.whole.block p (omega (arith, w, u))).1 i.2))

    -- the span of a relevant row of the slot
    found : (p : ℕ) → p < length (slot_rows db frame n) → IsRelevantTo db lists (name (table_at frame n) p) → (s : Span) × Contains runs s × Covers s p
    found p l (id, i, (e, sh)) =
        let table = table_at frame n in
        let key = slot_key db frame n in
        let is : id ≡ name table id.place = same-name id (name table id.place) (sym e) refl in
        let mine : SharesKey key (named db (name table p)) (named db (name table id.place)) = subst (λ z. SharesKey key (named db (name table p)) (named db z)) is sh in
        let j = place_of column id.place ((c.exactly id.place).1 (subst (IsIn lists) is i)) in
        let ej : get_or column j.0 0 ≡ id.place = get_or_from_slice_get column j.0 id.place 0 j.2 in
        let s = r.every j.0 j.1 in
        let g = r.each s.0 s.1 in
        let covers : Covers s.0 id.place = subst (Covers s.0) ej s.2 in
        let w = g.whole.within in
        let u = covers.1 in
        let first = (g.whole.block id.place (omega (arith, w, u))).1 covers in (
          s.0,
          s.1,
          (g.whole.block p l).0 (shares-trans key (named db (name table s.0.start)) (named db (name table id.place)) (named db (name table p)) first
              (shares-sym key (named db (name table p)) (named db (name table id.place)) mine)),
        )

    pub list-spans-more : AreListSpansTo db frame lists (n + 1) k (spans ++ runs)
    list-spans-more = record {
      in_order = sorted_join span_cmp spans runs h.in_order r.in_order (λ s t ms mt.
          let l = (h.each s ms).0 in
          let e : t.slot ≡ n = (r.each t mt).of_slot in
          less_then (nat_cmp s.slot t.slot) (nat_cmp s.start t.start) (nat_cmp_less s.slot t.slot (omega (arith, l, e))));
      based = based-joined 0 m k spans runs h.based r.based;
      each = λ s ms. elim (Contains-append_cases spans runs s ms) [
        | inl a ↦ let b = h.each s a in let b0 = b.0 in (omega (arith, b0), b.1)
        | inr a ↦ let g = r.each s a in let e : s.slot ≡ n = g.of_slot in (omega (arith, e), of_run s g)
      ];
      every = λ x l st rel. every x (cases_next x.slot n l) st rel;
    }
      where
        every : (x : Variable) → (x.slot < n) ⊎ (x.slot ≡ n) → IsStored db (name_in frame x) → IsRelevantTo db lists (name_in frame x) → (s : Span) × Contains (spans ++ runs) s × IsInSpan s x
        every x (inl l) st rel = let s = h.every x l st rel in (s.0, Contains-append_left spans runs s.0 s.1, s.2)
        every x (inr e) st rel =
            let there : x.place < length (slot_rows db frame n) = subst (λ F. x.place < length (slot_rows db frame F)) e st.1 in
            let matters : IsRelevantTo db lists (name (table_at frame n) x.place) = subst (λ F. IsRelevantTo db lists (name (table_at frame F) x.place)) e rel in
            let s = found x.place there matters in
            (s.0, Contains-append_right spans runs s.0 s.1, (e ∙ sym (r.each s.0 s.1).of_slot, s.2.0, s.2.1))

  -- all of them
  module _ (m : ℕ) (spans : List Span) (h : AreListSpansTo db frame lists (length frame) m spans) where
    pub whole_spans : (s : Span) → Contains spans s → IsWholeBlock (slot_key db frame s.slot) (slot_rows db frame s.slot) s
    whole_spans s k = (h.each s k).1.whole

    pub list_numbering : IsDatabase db → m ≤ MOST_TABLES * MOST_ROWS → IsSpanNumbering spans m
    list_numbering d few = record {
      apart = stand_apart (slot_key db frame) (slot_rows db frame) spans h.in_order whole_spans;
      based = h.based;
      few = few;
      within = λ s k. let w = (h.each s k).1.whole.within in let t = rows-few db (table_at frame s.slot) in let f = d.few_rows in omega (arith, w, t, f);
    }

    -- the slots of variables are those of the frame
    pub in_slots : (x : Variable) → Contains (variables_of_spans spans) x → x.slot < length frame
    in_slots x k = let p = in_variables spans x k in subst (λ F. F < length frame) (sym p.2.0) (h.each p.0 p.1).1.there

    pub are_list_variables : IsFrame db frame → AreVariables db frame lists (variables_of_spans spans)
    are_list_variables fr = record {
      in_order = variables-sorted (slot_key db frame) (slot_rows db frame) spans h.in_order whole_spans;
      exactly = λ x. (
        λ k. let p = in_variables spans x k in
            let l = in_slots x k in
            (l, ((fr.there x.slot l, inside (slot_key db frame) (slot_rows db frame) spans h.in_order (based-whole 0 m spans h.based) whole_spans p.0 p.1 x p.2), matters p.0 p.1 x p.2)),
        λ a. let p = h.every x a.0 a.1.0 a.1.1 in of_variables spans p.0 x p.1 p.2,
      );
    }
      where
        matters : (s : Span) → Contains spans s → (x : Variable) → IsInSpan s x → IsRelevantTo db lists (name_in frame x)
        matters s k x i =
            let rel = (h.each s k).1.relevant in
            let first = name_in frame (at s.slot s.start) in
            let mine = name_in frame (at s.slot x.place) in
            let sh = shares_first (slot_key db frame) (slot_rows db frame) spans h.in_order (based-whole 0 m spans h.based) whole_spans s k x.place i.1 i.2 in
            let there : IsRelevantTo db lists mine = (rel.0, rel.1, block-trans db mine first rel.0 (block-sym db first mine (refl, sh)) rel.2) in
            subst (λ y. IsRelevantTo db lists (name_in frame y)) (sym (as_at x s.slot i.0)) there

    pub are_list_blocks : IsFrame db frame → AreAllLists (IsBlock db frame (variables_of_spans spans)) (map numbers_in spans)
    are_list_blocks fr = record { in_order = all.in_order; exactly = λ numbers. (λ k. to numbers ((all.exactly numbers).0 k), λ b. (all.exactly numbers).1 (from numbers b)) }
      where
        all : AreAllLists (λ numbers. (x : Variable) × Contains (variables_of_spans spans) x × IsSlotBlock (slot_key db frame) (slot_rows db frame) (variables_of_spans spans) x numbers) (map numbers_in spans)
        all = are_slot_blocks (slot_key db frame) (slot_rows db frame) spans h.in_order (based-whole 0 m spans h.based) whole_spans

        to : (numbers : List ℕ) → ((x : Variable) × Contains (variables_of_spans spans) x × IsSlotBlock (slot_key db frame) (slot_rows db frame) (variables_of_spans spans) x numbers) → IsBlock db frame (variables_of_spans spans) numbers
        to numbers (x, k, b) = (
          x,
          k,
          record {
            rises = b.0;
            exactly = λ n. (
              λ c. let y = (b.1 n).0 c in (y.0, y.1, (ap (table_at frame) y.2.0, y.2.1)),
              λ y. (b.1 n).1 (y.0, y.1, (fr.apart x.slot y.0.slot (in_slots x k) (in_slots y.0 (numbered (variables_of_spans spans) n y.0 y.1)) y.2.0, y.2.1)),
            );
          },
        )

        from : (numbers : List ℕ) → IsBlock db frame (variables_of_spans spans) numbers → (x : Variable) × Contains (variables_of_spans spans) x × IsSlotBlock (slot_key db frame) (slot_rows db frame) (variables_of_spans spans) x numbers
        from numbers (x, k, b) = (
          x,
          k,
          (
            b.rises,
            λ n. (
              λ c. let y = (b.exactly n).0 c in (y.0, y.1, (fr.apart x.slot y.0.slot (in_slots x k) (in_slots y.0 (numbered (variables_of_spans spans) n y.0 y.1)) y.2.0, y.2.1)),
              λ y. (b.exactly n).1 (y.0, y.1, (ap (table_at frame) y.2.0, y.2.1)),
            ),
          ),
        )
