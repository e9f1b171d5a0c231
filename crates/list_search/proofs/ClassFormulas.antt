-- The clauses over classes of rows decide whether every repair keeps a list whole.
use Rattle.std.proofs.Common.{◌≡◌, ℕ, suc, ◌<◌, ◌≤◌, ◌+◌, inl, inr, List, length, map, Option, Some, None, refl, sym, ◌∙◌, ap, subst, arith, Contains, slice_get, Bool, true, false}
use Rattle.std.specs.List.Sorted.{IsStrictlySortedBy}
use Rattle.std.proofs.lemmas.Option.{slice_get_within, none-some}
use Rattle.std.proofs.lemmas.List.Elements.{Contains-append_left, Contains-append_right, Contains-append_cases}
use Rattle.cqa_value.proofs.Words.{Contains-map, Contains-from_map, Contains-slice_get, dec_one_below}
use Rattle.cqa_model.specs.declared.query.RowId.{RowId}
use Rattle.cqa_model.specs.Database.{Table, IsDatabase}
use Rattle.cqa_model.specs.Repairs.{SharesKey}
use Rattle.cqa_model.proofs.Classic.{dec_both}
use Rattle.cqa_model.proofs.Repairs.{shares-sym, shares-trans}
use Rattle.cnf_form.specs.declared.formula.Lit.{Lit}
use Rattle.cnf_form.specs.Literals.{Satisfies, SatisfiesAll}
use Rattle.flat_formula.specs.declared.guess.Found.{Found}
use Rattle.flat_formula.specs.declared.guess.Found.TheVariants.{Satisfiable, Unsatisfiable, Unclear}
use Rattle.flat_formula.specs.Findings.{FoundIs}
use Rattle.join_access.proofs.Sorted.{one_place}
use Rattle.table_blocks.specs.Tables.{rows_at, key_at}
use Rattle.row_lists.specs.declared.span.Span.{Span}
use Rattle.row_lists.specs.Clauses.{Variable, HasNumber, Rises, positive, negative, variable_cmp}
use Rattle.row_lists.specs.Spans.{at, HasSpan, IsInSpan, IsWholeBlock, variables_of_spans}
use Rattle.row_lists.specs.Lists.{named, IsIn, IsStored, AreStoredLists, IsOfBlock, IsForced}
use Rattle.row_lists.specs.Formulas.{table_at, name_in, IsFrame, AreWithin}
use Rattle.row_lists.specs.Encodings.{AreListSpansTo}
use Rattle.row_lists.specs.Classes.{AreClosed, AreClasses, IsCovered, SatisfiesClasses}
use Rattle.row_lists.proofs.Words.{block-self, name_discrete}
use Rattle.row_lists.proofs.Rows.{number_below, one_variable, dec_number, variable_total}
use Rattle.row_lists.proofs.Lists.{names_decide}
use Rattle.row_lists.proofs.Classes.{classes_of_names}
use Rattle.row_lists.proofs.Formulas.{same-variable}
use Rattle.list_search.specs.Classing.{HasClass, HasAllClasses, AreClassesOfBlock, AreClassClauses}
use Rattle.list_search.specs.Quotients.{columns_at, Agree, AreClassedTo, AreNumberedTo, AreClassesOf, AreQuotient}
use Rattle.list_search.specs.Finding.{FoundSays}
use Rattle.list_search.proofs.ClassLists.{some_some}
use Rattle.list_search.proofs.Rising.{rises_to}
use Rattle.list_search.proofs.SingleRows.{rising, span_at}

pub dec_class : (o : Option (Option ℕ)) → Dec ((n : ℕ) × (o ≡ Some (Some n)))
dec_class None = no (λ h. none-some (Some h.0) h.1)
dec_class (Some None) = no (λ h. no_none h.0 h.1)
  where
    no_none : (n : ℕ) → Some None ≡ Some (Some n) → ⊥
    no_none n e = cc
dec_class (Some (Some n)) = yes (n, refl)

same-name : (m n : RowId) → m.table ≡ n.table → m.place ≡ n.place → m ≡ n
same-name m n t p = λ i. record { table = t i; place = p i }

-- a literal of a clause that is satisfied
pub some_true : (v : ℕ → Bool) (numbers : List ℕ) → Satisfies v (map positive numbers) → (n : ℕ) × Contains numbers n × (v n ≡ true)
some_true v numbers (l, ml, e) = let p = Contains-from_map positive numbers l ml in (p.0, p.1, subst (λ (z : Lit). v z.var ≡ z.positive) (sym p.2) e)

pub some_false : (v : ℕ → Bool) (numbers : List ℕ) → Satisfies v (map negative numbers) → (n : ℕ) × Contains numbers n × (v n ≡ false)
some_false v numbers (l, ml, e) = let p = Contains-from_map negative numbers l ml in (p.0, p.1, subst (λ (z : Lit). v z.var ≡ z.positive) (sym p.2) e)

module _ (db : List Table) (frame : List ℕ) (lists : List (List RowId)) (columns : List (List ℕ)) (of : ℕ → List ℕ) (same : (s : ℕ) → s < length frame → of (table_at frame s) ≡ columns_at columns s)
    (d : IsDatabase db) (f : IsFrame db frame) (st : AreStoredLists db lists) (within : AreWithin frame lists) (closed : AreClosed db of lists) (m : ℕ) (spans : List Span) (h : AreListSpansTo db frame lists (length frame) m spans)
    (numbered : List Span) (rows : AreNumberedTo frame lists (length frame) numbered) where
  abbrev vars : List Variable
  vars = variables_of_spans numbered

  sorted : IsStrictlySortedBy variable_cmp vars
  sorted = rising numbered rows.single

  abbrev id_at : ℕ → ℕ → RowId
  id_at s p = name_in frame (at s p)

  -- a variable is of a slot of the frame
  slot : (y : Variable) (k : ℕ) → slice_get vars k ≡ Some y → y.slot < length frame
  slot y k e =
      let b = span_at numbered rows.single k y e in
      subst (λ (z : Variable). z.slot < length frame) b.2 (rows.from b.0 (Contains-slice_get numbered k b.0 b.1)).0

  -- ---- blocks

  each : (b : Span) → Contains spans b → (b.slot < length frame) × IsWholeBlock (key_at db (table_at frame b.slot)) (rows_at db (table_at frame b.slot)) b
  each b mb = let t = (h.each b mb).1 in (t.there, t.whole)

  -- the block of a row of a list
  every : (id : RowId) → IsIn lists id → (s : ℕ) → s < length frame → table_at frame s ≡ id.table → HasSpan spans s id.place
  every id i s l e =
      let is : id ≡ id_at s id.place = same-name id (id_at s id.place) (sym e) refl in
      h.every (at s id.place) l (subst (IsStored db) is (st id i)) (id, i, subst (λ n. IsOfBlock db n id) is (block-self db id))

  in_rows : (b : Span) → Contains spans b → (p : ℕ) → IsInSpan b (at b.slot p) → IsStored db (id_at b.slot p)
  in_rows b mb p i =
      let t = each b mb in
      let w = t.1.within in
      let u = i.2 in
      (f.there b.slot t.0, omega (arith, u, w))

  of_block : (b : Span) → Contains spans b → (p r : ℕ) → IsInSpan b (at b.slot p) → IsInSpan b (at b.slot r) → IsOfBlock db (id_at b.slot p) (id_at b.slot r)
  of_block b mb p r i j =
      let t = (each b mb).1 in
      let key = key_at db (table_at frame b.slot) in
      let lp = (in_rows b mb p i).1 in
      let lr = (in_rows b mb r j).1 in (
        refl,
        shares-trans key (named db (id_at b.slot p)) (named db (id_at b.slot b.start)) (named db (id_at b.slot r))
            (shares-sym key (named db (id_at b.slot b.start)) (named db (id_at b.slot p)) ((t.block p lp).1 (i.1, i.2))) ((t.block r lr).1 (j.1, j.2)),
      )

  in_block : (b : Span) → Contains spans b → (p : ℕ) → IsInSpan b (at b.slot p) → (n : RowId) → IsStored db n → IsOfBlock db (id_at b.slot p) n → IsInSpan b (at b.slot n.place) × (n ≡ id_at b.slot n.place)
  in_block b mb p i n sn o =
      let t = (each b mb).1 in
      let key = key_at db (table_at frame b.slot) in
      let is : n ≡ id_at b.slot n.place = same-name n (id_at b.slot n.place) (sym o.0) refl in
      let l : n.place < length (rows_at db (table_at frame b.slot)) = subst (λ u. n.place < length (rows_at db u)) (sym o.0) sn.1 in
      let first = (t.block p (in_rows b mb p i).1).1 (i.1, i.2) in
      let sh = shares-trans key (named db (id_at b.slot b.start)) (named db (id_at b.slot p)) (named db (id_at b.slot n.place)) first (subst (λ z. SharesKey key (named db (id_at b.slot p)) (named db z)) is o.1) in
      let c = (t.block n.place l).0 sh in
      ((refl, c.0, c.1), is)

  module _ (classes : List (Option ℕ)) (c : AreClassedTo db frame columns vars lists (length frame) classes) where
    -- the class of a row
    abbrev IsHit : RowId → ℕ → Type 0
    IsHit id k = ((y : Variable) × HasNumber vars (suc k) y × (name_in frame y ≡ id)) × ((n : ℕ) × (slice_get classes k ≡ Some (Some n)))

    dec_hit : (id : RowId) → Dec ((k : ℕ) × (k < length vars) × IsHit id k)
    dec_hit id = dec_one_below (IsHit id)
        (λ k. dec_both (dec_number vars (λ y. name_in frame y ≡ id) (λ y. name_discrete (name_in frame y) id) (suc k)) (dec_class (slice_get classes k))) (length vars)

    abbrev chosen : (id : RowId) → Dec ((k : ℕ) × (k < length vars) × IsHit id k) → ℕ
    chosen id (yes p) = p.2.1.0
    chosen id (no g) = 0

    class : RowId → ℕ
    class id = chosen id (dec_hit id)

    is_class : (s p n : ℕ) → HasClass vars classes s p n → class (id_at s p) ≡ n
    unfolding class
    is_class s p n (k, ek, en) = go (dec_hit (id_at s p))
      where
        go : (dec : Dec ((j : ℕ) × (j < length vars) × IsHit (id_at s p) j)) → chosen (id_at s p) dec ≡ n
        go (yes (j, l, ((y, ey, yr), (i, ei)))) =
            let slots : y.slot ≡ s = f.apart y.slot s (slot y j ey) (slot (at s p) k ek) (ap (λ (z : RowId). z.table) yr) in
            let whole : y ≡ at s p = same-variable y (at s p) slots (ap (λ (z : RowId). z.place) yr) in
            let jk : j ≡ k = one_place variable_cmp variable_total vars j k (at s p) sorted (subst (λ z. slice_get vars j ≡ Some z) whole ey) ek in
            some_some i n (sym ei ∙ (ap (slice_get classes) jk ∙ en))
        go (no g) = absurd (g (k, slice_get_within vars k (at s p) ek, ((at s p, ek, refl), (n, en))))

    -- a row of a list has one
    record Classed (id : RowId) : Type 0 where
      pub slot_of : ℕ
      pub there : slot_of < length frame
      pub table : table_at frame slot_of ≡ id.table
      pub is : id_at slot_of id.place ≡ id
      pub number : ℕ
      pub has : HasClass vars classes slot_of id.place number
      pub class_is : class id ≡ number

    classed : (id : RowId) → IsIn lists id → Classed id
    classed id i =
        let w = within id i in
        let e : id_at w.0 id.place ≡ id = same-name (id_at w.0 id.place) id w.2 refl in
        let n = c.to w.0 id.place (w.1, subst (IsIn lists) (sym e) i) in
        record { slot_of = w.0; there = w.1; table = w.2; is = e; number = n.0; has = n.1; class_is = ap class (sym e) ∙ is_class w.0 id.place n.0 n.1 }

    are_classes : AreClasses db of lists class
    are_classes m n im jn e = record { one_table = table; there = st n jn; agree = subst (λ cs. SharesKey cs (named db m) (named db n)) (sym (ap of (sym cm.table) ∙ same cm.slot_of cm.there)) agree }
      where
        cm : Classed m
        cm = classed m im

        cn : Classed n
        cn = classed n jn

        am : (r : ℕ) × HasNumber vars cm.number (at cm.slot_of r) × Agree db frame columns cm.slot_of r m.place
        am = c.alike cm.slot_of m.place cm.number cm.has

        an : (r : ℕ) × HasNumber vars cn.number (at cn.slot_of r) × Agree db frame columns cn.slot_of r n.place
        an = c.alike cn.slot_of n.place cn.number cn.has

        one : at cm.slot_of am.0 ≡ at cn.slot_of an.0
        one = one_variable vars cn.number (at cm.slot_of am.0) (at cn.slot_of an.0) (subst (λ k. HasNumber vars k (at cm.slot_of am.0)) (sym cm.class_is ∙ (e ∙ cn.class_is)) am.1) an.1

        slots : cm.slot_of ≡ cn.slot_of
        slots = ap (λ (z : Variable). z.slot) one

        table : m.table ≡ n.table
        table = sym cm.table ∙ (ap (table_at frame) slots ∙ cn.table)

        cols : List ℕ
        cols = columns_at columns cm.slot_of

        left : SharesKey (columns_at columns cm.slot_of) (named db m) (named db (id_at cm.slot_of am.0))
        left = shares-sym (columns_at columns cm.slot_of) (named db (id_at cm.slot_of am.0)) (named db m) (subst (λ z. SharesKey (columns_at columns cm.slot_of) (named db (id_at cm.slot_of am.0)) (named db z)) cm.is am.2)

        right : SharesKey (columns_at columns cm.slot_of) (named db (id_at cm.slot_of am.0)) (named db n)
        right = subst (λ (z : Variable). SharesKey (columns_at columns z.slot) (named db (name_in frame z)) (named db n)) (sym one)
            (subst (λ z. SharesKey (columns_at columns cn.slot_of) (named db (id_at cn.slot_of an.0)) (named db z)) cn.is an.2)

        agree : SharesKey (columns_at columns cm.slot_of) (named db m) (named db n)
        agree = shares-trans (columns_at columns cm.slot_of) (named db m) (named db (id_at cm.slot_of am.0)) (named db n) left right

    module _ (cs : List (List Lit)) (k : AreClassClauses vars classes spans (AreClassesOf frame vars classes) lists cs) where
      block_in : (numbers : List ℕ) → Contains k.blocks numbers → Contains cs (map positive numbers)
      block_in numbers mn = subst (λ ds. Contains ds (map positive numbers)) (sym k.is)
          (Contains-append_left (map (map positive) k.blocks) (map (map negative) k.lists) (map positive numbers) (Contains-map (map positive) k.blocks numbers mn))

      list_in : (numbers : List ℕ) → Contains k.lists numbers → Contains cs (map negative numbers)
      list_in numbers mn = subst (λ ds. Contains ds (map negative numbers)) (sym k.is)
          (Contains-append_right (map (map positive) k.blocks) (map (map negative) k.lists) (map negative numbers) (Contains-map (map negative) k.lists numbers mn))

      -- from clauses to classes
      from_sat : ((v : ℕ → Bool) × SatisfiesAll v cs) → (t : ℕ → Bool) × SatisfiesClasses db lists class t
      from_sat (v, sat) = (v, record { blocks = blocks; each = list })
        where
          Goal : RowId → Type 0
          Goal id = (n : RowId) × IsStored db n × IsOfBlock db id n × (v (class n) ≡ true)

          whole : (b : Span) → Contains spans b → (p : ℕ) → IsInSpan b (at b.slot p) → IsCovered db lists (id_at b.slot p) → HasAllClasses vars classes b
          whole b mb p i cov r j = c.to b.slot r ((each b mb).0, cov (id_at b.slot r) (in_rows b mb r j) (of_block b mb p r i j))

          of_span : (b : Span) → Contains spans b → (p : ℕ) → IsInSpan b (at b.slot p) → IsCovered db lists (id_at b.slot p) → Goal (id_at b.slot p)
          of_span b mb p i cov =
              let lst = k.of_blocks.every b mb (whole b mb p i cov) in
              let n = some_true v lst.0 (sat (map positive lst.0) (block_in lst.0 lst.1)) in
              let g = (lst.2.exactly n.0).0 n.1 in
              (id_at b.slot g.0, in_rows b mb g.0 g.1, of_block b mb p g.0 i g.1, ap v {x = class (id_at b.slot g.0)} (is_class b.slot g.0 n.0 g.2) ∙ n.2)

          blocks : (id : RowId) → IsIn lists id → IsCovered db lists id → Goal id
          blocks id i cov =
              let w = within id i in
              let s = every id i w.0 w.1 w.2 in
              let e : id_at s.0.slot id.place ≡ id = same-name (id_at s.0.slot id.place) id (ap (table_at frame) (sym s.2.0) ∙ w.2) refl in
              subst Goal e (of_span s.0 s.1 id.place (refl, s.2.1, s.2.2) (subst (IsCovered db lists) (sym e) cov))

          list : (names : List RowId) → Contains lists names → (id : RowId) × Contains names id × (v (class id) ≡ false)
          list names mn =
              let lst = k.of_lists.every names mn in
              let n = some_false v lst.0 (sat (map negative lst.0) (list_in lst.0 lst.1)) in
              let g = (lst.2.exactly n.0).0 n.1 in
              let e : id_at g.2.0 g.0.place ≡ g.0 = same-name (id_at g.2.0 g.0.place) g.0 g.2.2 refl in
              (g.0, g.1, ap v {x = class g.0} (ap class (sym e) ∙ is_class g.2.0 g.0.place n.0 g.2.3) ∙ n.2)

      -- from classes to clauses
      to_sat : ((t : ℕ → Bool) × SatisfiesClasses db lists class t) → (v : ℕ → Bool) × SatisfiesAll v cs
      to_sat (t, s) = (
        t,
        λ cl mc. elim (Contains-append_cases (map (map positive) k.blocks) (map (map negative) k.lists) cl (subst (λ ds. Contains ds cl) k.is mc)) [
          | inl b ↦ let p = Contains-from_map (map positive) k.blocks cl b in subst (Satisfies t) p.2 (of_list p.0 (k.of_blocks.each p.0 p.1))
          | inr w ↦ let p = Contains-from_map (map negative) k.lists cl w in subst (Satisfies t) p.2 (of_names p.0 (k.of_lists.each p.0 p.1))
        ],
      )
        where
          of_list : (numbers : List ℕ) → ((b : Span) × Contains spans b × AreClassesOfBlock vars classes b numbers) → Satisfies t (map positive numbers)
          of_list numbers (b, mb, o) = go (s.blocks (id_at b.slot b.start) listed covered)
            where
              first : IsInSpan b (at b.slot b.start)
              first = let n = (each b mb).1.some in (refl, omega arith, omega (arith, n))

              listed : IsIn lists (id_at b.slot b.start)
              listed = let n = o.whole b.start first in (c.from b.slot b.start n.0 n.1).1

              covered : IsCovered db lists (id_at b.slot b.start)
              covered n sn on =
                  let r = in_block b mb b.start first n sn on in
                  let k = o.whole n.place r.0 in
                  subst (IsIn lists) (sym r.1) (c.from b.slot n.place k.0 k.1).1

              go : ((n : RowId) × IsStored db n × IsOfBlock db (id_at b.slot b.start) n × (t (class n) ≡ true)) → Satisfies t (map positive numbers)
              go (n, sn, on, e) =
                  let r = in_block b mb b.start first n sn on in
                  let k = o.whole n.place r.0 in
                  let is : class n ≡ k.0 = ap class r.1 ∙ is_class b.slot n.place k.0 k.1 in
                  (positive k.0, Contains-map positive numbers k.0 ((o.exactly k.0).1 (n.place, r.0, k.1)), ap t {y = class n} (sym is) ∙ e)

          of_names : (numbers : List ℕ) → ((names : List RowId) × Contains lists names × AreClassesOf frame vars classes names numbers) → Satisfies t (map negative numbers)
          of_names numbers (names, mn, o) =
              let p = s.each names mn in
              let g = classed p.0 (names, mn, p.1) in
              (negative g.number, Contains-map negative numbers g.number ((o.exactly g.number).1 (p.0, p.1, (g.slot_of, g.there, g.table, g.has))), ap t (sym g.class_is) ∙ p.2)

      avoided : ((v : ℕ → Bool) × SatisfiesAll v cs) → IsForced db lists → ⊥
      avoided sat forced =
          let r = (classes_of_names db of lists class st closed are_classes).0 (from_sat sat) in
          (names_decide db lists d st).0 forced r.0 r.1

      forced : ((v : ℕ → Bool) → SatisfiesAll v cs → ⊥) → IsForced db lists
      forced none = (names_decide db lists d st).1 (λ a sat. let r = to_sat ((classes_of_names db of lists class st closed are_classes).1 (a, sat)) in none r.0 r.1)

  pub found_says : (cs : List (List Lit)) → AreQuotient db frame columns numbered spans lists cs → (g : Found) → FoundIs cs g → FoundSays (IsForced db lists) g
  found_says cs (classes, c, k) Satisfiable s = avoided classes c cs k s
  found_says cs (classes, c, k) Unsatisfiable s = forced classes c cs k s
  found_says cs (classes, c, k) Unclear s = tt

-- ---- the clauses are well formed

module _ (db : List Table) (frame : List ℕ) (columns : List (List ℕ)) (numbered spans : List Span) (lists : List (List RowId)) (cs : List (List Lit)) where
  pub quotient_rises : AreQuotient db frame columns numbered spans lists cs → (cl : List Lit) → Contains cs cl → Rises (length (variables_of_spans numbered)) cl
  quotient_rises (classes, c, k) = rises_to (length (variables_of_spans numbered)) k.blocks k.lists cs k.is
      (λ ns m. let o = (k.of_blocks.each ns m) in (o.2.rises, λ n mn. let g = (o.2.exactly n).0 mn in number o.0.slot g.0 n g.2))
      (λ ns m. let o = (k.of_lists.each ns m) in (o.2.rises, λ n mn. let g = (o.2.exactly n).0 mn in number g.2.0 g.0.place n g.2.3))
    where
      number : (s p n : ℕ) → HasClass (variables_of_spans numbered) classes s p n → (1 ≤ n) × (n < 1 + length (variables_of_spans numbered))
      number s p n hc = let r = c.alike s p n hc in number_below (variables_of_spans numbered) n (at s r.0) r.1
