-- The formula of the lists of a row's witnesses, over the query's tables, is the formula of the row.
use Rattle.std.proofs.Common.{◌≡◌, ℕ, zero, suc, ◌+◌, ◌<◌, List, [], ◌∷◌, length, get_or, map, false, sym, ◌∙◌, ap, subst, arith, Contains, Less, le_of_suc-le-suc}
use Rattle.std.specs.Ordering.{nat_cmp}
use Rattle.std.specs.List.{AllZip}
use Rattle.std.specs.List.Sorted.{IsStrictlySortedBy}
use Rattle.std.proofs.lemmas.Cmp.{nat_cmp_total}
use Rattle.std.proofs.lemmas.List.{length-map, get_or-map}
use Rattle.std.proofs.lemmas.List.Elements.{Contains-get_or}
use Rattle.cqa_value.specs.declared.value.Value.{Value}
use Rattle.std.proofs.lemmas.Option.{get_or_from_slice_get}
use Rattle.cqa_value.proofs.Words.{map_alike, member_place}
use Rattle.cqa_model.specs.declared.query.Atom.{Atom}
use Rattle.cqa_model.specs.declared.query.Query.{Query}
use Rattle.cqa_model.specs.declared.query.RowId.{RowId}
use Rattle.cqa_model.specs.Database.{Table, stored}
use Rattle.cqa_model.specs.Repairs.{SharesKey}
use Rattle.cqa_model.specs.Query.{atom_at, atom_key, row_at, FitsDatabase}
use Rattle.cqa_model.specs.Formula.{IsRelevant}
use Rattle.cqa_model.specs.Shape.{nth_atom}
use Rattle.cqa_model.proofs.Classic.{mem-head, mem-tail}
use Rattle.cqa_model.proofs.Repairs.{shares-self}
use Rattle.join_access.specs.Witnesses.{AreNamedRows}
use Rattle.join_access.specs.Listing.{AreNamesOf, AreAllNames, places_of}
use Rattle.join_access.proofs.Naming.{same-name}
use Rattle.join_access.proofs.Sorted.{one_sorted, sorted-from}
use Rattle.table_blocks.specs.Tables.{rows_at, key_at}
use Rattle.row_witnesses.specs.Columns.{place_at}
use Rattle.row_lists.specs.declared.formula.Encoded.{Encoded}
use Rattle.row_lists.specs.Encodings.{IsListEncoded}
use Rattle.row_lists.specs.Clauses.{Variable, HasNumber, AreAllLists, Formula}
use Rattle.row_lists.specs.Spans.{at}
use Rattle.row_lists.specs.Lists.{name, named, IsStored, IsOfBlock, AreStoredLists}
use Rattle.row_lists.specs.Formulas.{IsFrame, IsBlock, IsRelevantTo, AreWithin, AreNumbersOf, IsFormulaOf, name_in, table_at}
use Rattle.row_lists.proofs.Making.{witness-names}
use Rattle.row_lists.proofs.Naming.{named-id, named-at, named-place}
use Rattle.row_lists.proofs.Numbers.{place_of}
use Rattle.row_lists.proofs.Rows.{number_of, numbered}
use Rattle.row_lists.proofs.Order.{numbers_rise, same_number, slot_less}
use Rattle.row_lists.proofs.Formulas.{same-variable}
use Rattle.repair_clauses.specs.Clauses.{AreRowVariables, AreBlockNumbers, IsFormula, IsStoredVariable, SharesBlock, variable_row, variable_name}
use Rattle.repair_clauses.specs.Encodings.{IsEncoded}
use Rattle.repair_clauses.specs.Frames.{tables_of}
use Rattle.repair_clauses.specs.Laws.{ListsGiveFormula}
use Rattle.repair_clauses.specs.Spans.{AreNumbers}
use Rattle.repair_clauses.proofs.Naming.{named-size, of_names, placed}
use Rattle.repair_clauses.proofs.Spans.{are_witnesses, numbers_at, numbers_long}

-- the table of a named row is that of its atom
named_table : (db : List Table) (atoms : List Atom) (names : List RowId) (w : List (List Value)) → AreNamedRows db atoms names w → (F : ℕ) → F < length atoms → (get_or names F (name 0 0)).table ≡ (nth_atom atoms F).table
named_table db [] names w h F l = absurd (omega (arith, l))
named_table db (a ∷ atoms) [] [] h F l = absurd h
named_table db (a ∷ atoms) [] (r ∷ w) h F l = absurd h
named_table db (a ∷ atoms) (x ∷ names) [] h F l = absurd h
named_table db (a ∷ atoms) (x ∷ names) (r ∷ w) h zero l = h.0
named_table db (a ∷ atoms) (x ∷ names) (r ∷ w) h (suc F) l = named_table db atoms names w h.2 F (le_of_suc-le-suc l)

module _ (q : Query) (db : List Table) (fits : FitsDatabase q db) where
  abbrev frame : List ℕ
  frame = tables_of q

  pub long : length frame ≡ length q.atoms
  long = length-map q.atoms (λ (a : Atom). a.table)

  -- the table of a slot is that of its atom
  pub table_of : (F : ℕ) → F < length q.atoms → table_at frame F ≡ (atom_at q F).table
  table_of F l = get_or-map (λ (a : Atom). a.table) q.atoms F (record { table = 0; width = 0; key = []; strict = false }) 0 l

  in_atoms : (s : ℕ) → s < length frame → s < length q.atoms
  in_atoms s l = subst (λ k. s < k) long l

  in_frame : (F : ℕ) → F < length q.atoms → F < length frame
  in_frame F l = subst (λ k. F < k) (sym long) l

  pub is-frame : IsFrame db frame
  is-frame = record {
    there = λ s l. subst (λ t. t < length db) (sym (table_of s (in_atoms s l))) (fits.there s (in_atoms s l));
    apart = λ s t ls lt e. q.kept.apart s t (in_atoms s ls) (in_atoms t lt) (sym (table_of s (in_atoms s ls)) ∙ e ∙ table_of t (in_atoms t lt));
  }

  row_is : (x : Variable) → x.slot < length q.atoms → named db (name_in frame x) ≡ variable_row q db x
  row_is x l = ap (λ t. get_or (rows_at db t) x.place []) (table_of x.slot l)

  key_is : (F : ℕ) → F < length q.atoms → key_at db (table_at frame F) ≡ atom_key q F
  key_is F l = ap (key_at db) (table_of F l) ∙ sym (fits.keyed F l)

  -- rows of a table that share its key, by the atom's key and rows
  shares : (F : ℕ) → F < length q.atoms → (x y r s : List Value) → x ≡ r → y ≡ s → SharesKey (key_at db (table_at frame F)) x y → SharesKey (atom_key q F) r s
  shares F l x y r s e f h = subst (λ k. SharesKey k r s) (key_is F l) (subst (λ z. SharesKey (key_at db (table_at frame F)) r z) f (subst (λ z. SharesKey (key_at db (table_at frame F)) z y) e h))

  shared : (F : ℕ) → F < length q.atoms → (x y r s : List Value) → x ≡ r → y ≡ s → SharesKey (atom_key q F) r s → SharesKey (key_at db (table_at frame F)) x y
  shared F l x y r s e f h = subst (λ k. SharesKey k x y) (sym (key_is F l)) (subst (λ z. SharesKey (atom_key q F) x z) (sym f) (subst (λ z. SharesKey (atom_key q F) z s) (sym e) h))

  to_block : (x y : Variable) → x.slot < length q.atoms → y.slot < length q.atoms → IsOfBlock db (name_in frame x) (name_in frame y) → SharesBlock q db x y
  to_block x y lx ly h = (
    is-frame.apart x.slot y.slot (in_frame x.slot lx) (in_frame y.slot ly) h.0,
    shares x.slot lx (named db (name_in frame x)) (named db (name_in frame y)) (variable_row q db x) (variable_row q db y) (row_is x lx) (row_is y ly) h.1,
  )

  from_block : (x y : Variable) → x.slot < length q.atoms → y.slot < length q.atoms → SharesBlock q db x y → IsOfBlock db (name_in frame x) (name_in frame y)
  from_block x y lx ly h = (
    ap (table_at frame) h.0,
    shared x.slot lx (named db (name_in frame x)) (named db (name_in frame y)) (variable_row q db x) (variable_row q db y) (row_is x lx) (row_is y ly) h.1,
  )

  to_stored : (x : Variable) → x.slot < length q.atoms → IsStored db (name_in frame x) → IsStoredVariable q db x
  to_stored x l s = (l, subst (λ t. x.place < length (rows_at db t)) (table_of x.slot l) s.1)

  from_stored : (x : Variable) → IsStoredVariable q db x → IsStored db (name_in frame x)
  from_stored x s = (
    subst (λ t. t < length db) (sym (table_of x.slot s.0)) (fits.there x.slot s.0),
    subst (λ t. x.place < length (rows_at db t)) (sym (table_of x.slot s.0)) s.1,
  )

  module _ (row : List Value) (all : List (List RowId)) (h : AreAllNames q db row all) where
    to_relevant : (x : Variable) → x.slot < length q.atoms → IsRelevantTo db all (name_in frame x) → IsRelevant q (stored db) row x.slot (variable_row q db x)
    to_relevant x l (n, (names, m, i), (e, s)) =
        let a = (h.exactly names).0 m in
        let k = named-id db q.atoms names a.0 a.2 n i in
        let same : x.slot ≡ k.0 = q.kept.apart x.slot k.0 l k.1 (sym (table_of x.slot l) ∙ e ∙ k.2) in
        (a.0, a.1, shares x.slot l (named db (name_in frame x)) (named db n) (variable_row q db x) (row_at a.0 x.slot) (row_is x l) (k.3 ∙ ap (row_at a.0) (sym same)) s)

    from_relevant : (x : Variable) → x.slot < length q.atoms → IsRelevant q (stored db) row x.slot (variable_row q db x) → IsRelevantTo db all (name_in frame x)
    from_relevant x l (w, hw, s) =
        let n = witness-names q db row w hw in
        let k = named-at db q.atoms n.0 w n.1 x.slot l in (
          k.0,
          (n.0, (h.exactly n.0).1 (w, hw, n.1), k.1),
          (
            table_of x.slot l ∙ sym k.2,
            shared x.slot l (named db (name_in frame x)) (named db k.0) (variable_row q db x) (row_at w x.slot) (row_is x l) k.3 s,
          ),
        )

    module _ (f : Formula) (is : IsFormulaOf db frame all f) where
      variables : AreRowVariables q db row f.variables
      variables = record {
        in_order = is.variables.in_order;
        exactly = λ x. (
          λ m. let s = (is.variables.exactly x).0 m in let l = in_atoms x.slot s.0 in (to_stored x l s.1.0, to_relevant x l s.1.1),
          λ s. (is.variables.exactly x).1 (in_frame x.slot s.0.0, (from_stored x s.0, from_relevant x s.0.0 s.1)),
        );
      }

      slot_there : (x : Variable) → Contains f.variables x → x.slot < length q.atoms
      slot_there x m = ((variables.exactly x).0 m).0.0

      of_block : (numbers : List ℕ) → IsBlock db frame f.variables numbers → AreBlockNumbers q db f.variables numbers
      of_block numbers (x, m, b) = (
        x,
        m,
        record {
          rises = b.rises;
          exactly = λ n. (
            λ k. let y = (b.exactly n).0 k in (y.0, y.1, to_block x y.0 (slot_there x m) (slot_there y.0 (numbered f.variables n y.0 y.1)) y.2),
            λ y. (b.exactly n).1 (y.0, y.1, from_block x y.0 (slot_there x m) (slot_there y.0 (numbered f.variables n y.0 y.1)) y.2),
          );
        },
      )

      to_blocks : (numbers : List ℕ) → AreBlockNumbers q db f.variables numbers → IsBlock db frame f.variables numbers
      to_blocks numbers (x, m, b) = (
        x,
        m,
        record {
          rises = b.rises;
          exactly = λ n. (
            λ k. let y = (b.exactly n).0 k in (y.0, y.1, from_block x y.0 (slot_there x m) (slot_there y.0 (numbered f.variables n y.0 y.1)) y.2),
            λ y. (b.exactly n).1 (y.0, y.1, to_block x y.0 (slot_there x m) (slot_there y.0 (numbered f.variables n y.0 y.1)) y.2),
          );
        },
      )

      blocks : AreAllLists (AreBlockNumbers q db f.variables) f.blocks
      blocks = record {
        in_order = is.blocks.in_order;
        exactly = λ numbers. (λ m. of_block numbers ((is.blocks.exactly numbers).0 m), λ b. (is.blocks.exactly numbers).1 (to_blocks numbers b));
      }

      -- the numbers of places, one after the other
      numbers_for : (F : ℕ) (ps : List ℕ) → ((i : ℕ) → i < length ps → Contains f.variables (at (F + i) (get_or ps i 0))) → (ns : List ℕ) × AreNumbers f.variables F ps ns
      numbers_for F [] there = ([], tt)
      numbers_for F (p ∷ ps) there =
          let first = number_of f.variables (at F p) (subst (λ G. Contains f.variables (at G p)) (let z : F + 0 ≡ F = omega arith in z) (there 0 (omega arith))) in
          let rest = numbers_for (suc F) ps (λ i l. subst (λ G. Contains f.variables (at G (get_or ps i 0))) (let z : F + suc i ≡ suc F + i = omega arith in z) (there (suc i) (omega (arith, l)))) in
          (first.0 ∷ rest.0, (first.1, rest.1))

      module _ (names : List RowId) (m : Contains all names) (numbers : List ℕ) (c : AreNumbersOf frame f.variables names numbers) where
        own : AreNamesOf q db row names
        own = (h.exactly names).0 m

        size : length (places_of names) ≡ length q.atoms
        size = length-map names (λ (x : RowId). x.place) ∙ named-size db q.atoms names own.0 own.2

        within : (F : ℕ) → F < length q.atoms → F < length names
        within F l = let s = size in let t = length-map names (λ (x : RowId). x.place) in omega (arith, l, s, t)

        -- the name of an atom's row has its table and place
        name_of : (F : ℕ) → F < length q.atoms → get_or names F (name 0 0) ≡ name (table_at frame F) (place_at names F)
        name_of F l = same-name (get_or names F (name 0 0)) (name (table_at frame F) (place_at names F))
            (named_table db q.atoms names own.0 own.2 F l ∙ sym (table_of F l)) (sym (get_or-map (λ (y : RowId). y.place) names F (name 0 0) 0 (within F l)))

        there : (F : ℕ) → F < length q.atoms → Contains f.variables (at F (place_at names F))
        there F l =
            let p = of_names q db row names own in
            let st : IsStoredVariable q db (at F (place_at names F)) = (l, (p.each F l).0) in
            (variables.exactly (at F (place_at names F))).1 (st, (p.rows, p.witness, subst (λ r. SharesKey (atom_key q F) (variable_row q db (at F (place_at names F))) r) (p.each F l).1 (shares-self (atom_key q F) (variable_row q db (at F (place_at names F))))))

        made : (ns : List ℕ) × AreNumbers f.variables 0 (places_of names) ns
        made = numbers_for 0 (places_of names) (λ i l. subst (λ G. Contains f.variables (at G (get_or (places_of names) i 0))) (let z : i ≡ 0 + i = omega arith in z) (there i (subst (λ k. i < k) size l)))

        made_at : (i : ℕ) → i < length q.atoms → HasNumber f.variables (get_or made.0 i 0) (at i (place_at names i))
        made_at i l = subst (λ G. HasNumber f.variables (get_or made.0 i 0) (at G (place_at names i))) (let z : 0 + i ≡ i = omega arith in z) (numbers_at f.variables 0 (places_of names) made.0 made.1 i (subst (λ k. i < k) (sym size) l))

        made_long : length made.0 ≡ length q.atoms
        made_long = numbers_long f.variables 0 (places_of names) made.0 made.1 ∙ size

        made_rises : IsStrictlySortedBy nat_cmp made.0
        made_rises = sorted-from nat_cmp made.0 0 (λ i j l lj. pair i j l (subst (λ k. j < k) made_long lj))
          where
            pair : (i j : ℕ) → i < j → j < length q.atoms → nat_cmp (get_or made.0 i 0) (get_or made.0 j 0) ≡ Less
            pair i j l lj =
                let r = numbers_rise f.variables variables.in_order (get_or made.0 i 0) (get_or made.0 j 0) (at i (place_at names i)) (at j (place_at names j)) (made_at i (omega (arith, l, lj))) (made_at j lj) (slot_less (at i (place_at names i)) (at j (place_at names j)) l) in
                grind (arith, r)

        to_numbers : (n : ℕ) → Contains made.0 n → Contains numbers n
        to_numbers n k =
            let p = member_place made.0 n 0 k in
            let l : p.0 < length q.atoms = subst (λ z. p.0 < z) made_long p.1 in
            (c.exactly n).1 (
              get_or names p.0 (name 0 0),
              Contains-get_or names p.0 (name 0 0) (within p.0 l),
              (
                at p.0 (place_at names p.0),
                subst (λ z. HasNumber f.variables z (at p.0 (place_at names p.0))) p.2 (made_at p.0 l),
                sym (name_of p.0 l),
              ),
            )

        from_numbers : (n : ℕ) → Contains numbers n → Contains made.0 n
        from_numbers n k = go ((c.exactly n).0 k)
          where
            go : ((id : RowId) × Contains names id × ((x : Variable) × HasNumber f.variables n x × (name_in frame x ≡ id))) → Contains made.0 n
            go (id, i, (x, hn, e)) =
                let p = place_of names id i in
                let lN = p.1 in
                let t = length-map names (λ (y : RowId). y.place) in
                let s = size in
                let l : p.0 < length q.atoms = omega (arith, lN, t, s) in
                let same_id : get_or names p.0 (name 0 0) ≡ id = get_or_from_slice_get names p.0 id (name 0 0) p.2 in
                let full : name_in frame x ≡ name (table_at frame p.0) (place_at names p.0) = e ∙ sym same_id ∙ name_of p.0 l in
                let slots : x.slot ≡ p.0 = is-frame.apart x.slot p.0 (in_frame x.slot (slot_there x (numbered f.variables n x hn))) (in_frame p.0 l) (ap (λ (y : RowId). y.table) full) in
                let whole : x ≡ at p.0 (place_at names p.0) = same-variable x (at p.0 (place_at names p.0)) slots (ap (λ (y : RowId). y.place) full) in
                let n_is : get_or made.0 p.0 0 ≡ n = same_number f.variables variables.in_order (get_or made.0 p.0 0) n (at p.0 (place_at names p.0)) (made_at p.0 l) (subst (HasNumber f.variables n) whole hn) in
                subst (Contains made.0) n_is (Contains-get_or made.0 p.0 0 (subst (λ z. p.0 < z) (sym made_long) l))

        of_list : AreNumbers f.variables 0 (places_of names) numbers
        of_list = subst (AreNumbers f.variables 0 (places_of names)) (one_sorted nat_cmp nat_cmp_total made.0 numbers made_rises c.rises to_numbers from_numbers) made.1

      of_lists : (ls : List (List RowId)) (ns : List (List ℕ)) → ((names : List RowId) → Contains ls names → Contains all names) → AllZip (AreNumbersOf frame f.variables) ls ns → AllZip (AreNumbers f.variables 0) (map places_of ls) ns
      of_lists [] [] w z = tt
      of_lists [] (n ∷ ns) w z = absurd z
      of_lists (l ∷ ls) [] w z = absurd z
      of_lists (l ∷ ls) (n ∷ ns) w z = (of_list l (w l (mem-head l ls)) n z.0, of_lists ls ns (λ x k. w x (mem-tail x l ls k)) z.1)

      pub row_formula : IsFormula q db row f
      row_formula = record {
        variables = variables;
        blocks = blocks;
        witnesses = are_witnesses q db row f.variables variables (map places_of all) f.witnesses (placed q db row all h) (of_lists all f.witnesses (λ x k. k) is.witnesses);
      }

module _ (q : Query) (db : List Table) (fits : FitsDatabase q db) (row : List Value) (all : List (List RowId)) (h : AreAllNames q db row all) where
  pub lists_within : AreWithin (tables_of q) all
  lists_within id (names, m, i) =
      let a = (h.exactly names).0 m in
      let k = named-place db q.atoms names a.0 a.2 id i in
      (k.0, in_frame q db fits k.0 k.1, table_of q db fits k.0 k.1 ∙ sym k.2)

  pub lists_stored : AreStoredLists db all
  lists_stored id (names, m, i) =
      let a = (h.exactly names).0 m in
      let k = named-place db q.atoms names a.0 a.2 id i in
      (subst (λ t. t < length db) (sym k.2) (fits.there k.0 k.1), k.3)

  -- so is what is made of it
  pub row_encoded : (e : Encoded) → IsListEncoded db (tables_of q) all e → IsEncoded q db row e
  row_encoded e k =
      let f = row_formula q db fits row all h k.formula k.is in
      record {
        formula = k.formula;
        is = f;
        vars = k.vars;
        are = k.are;
        rows = k.rows ∙ map_alike (name_in (tables_of q)) (variable_name q) k.formula.variables (λ x m. ap (λ t. name t x.place) (table_of q db fits x.slot ((f.variables.exactly x).0 m).0.0));
      }

pub lists_give_formula : ListsGiveFormula
lists_give_formula db q row all f fits h is = row_formula q db fits row all h f is
