-- The formula of lists has a satisfying assignment exactly where the names have one.
use Rattle.std.proofs.Common.{◌≡◌, ℕ, zero, suc, ◌<◌, ◌+◌, inl, inr, List, length, map, Option, Some, None, refl, sym, ◌∙◌, ap, subst, Contains, slice_get, Bool, true, false}
use Rattle.std.specs.List.{AllZip}
use Rattle.std.specs.Ordering.{nat_cmp}
use Rattle.std.proofs.lemmas.Cmp.{nat_cmp_total}
use Rattle.std.proofs.lemmas.List.Elements.{Contains-append_left, Contains-append_right, Contains-append_cases}
use Rattle.std.proofs.Math.Bool.{Bool-discrete}
use native.Mathlib.Decide.{ℕ_discrete}
use Rattle.cqa_value.specs.declared.value.Value.{Value}
use Rattle.cqa_value.proofs.Words.{Contains-from_map, Contains-map, all_zip_right, clash, dec_both, dec_one_below, is_yes, no_of, yes_of}
use Rattle.cqa_model.specs.declared.query.RowId.{RowId}
use Rattle.cqa_model.specs.Database.{Table}
use Rattle.cqa_model.proofs.Repairs.{dec_shares}
use Rattle.cnf_form.specs.declared.formula.Lit.{Lit}
use Rattle.cnf_form.specs.Literals.{Satisfies, SatisfiesAll}
use Rattle.table_blocks.specs.Tables.{key_at}
use Rattle.join_access.proofs.Naming.{same-name, zip-left}
use Rattle.join_access.proofs.Sorted.{one_sorted}
use Rattle.row_lists.specs.Clauses.{Variable, variable_cmp, HasNumber, AreAllLists, Formula, IsSatisfiable, positive, negative, clauses}
use Rattle.row_lists.proofs.Numbers.{passing, passing-has, passing-holds, passing-rises}
use Rattle.row_lists.proofs.Rows.{numbered, number_below, number_of, dec_number, variable_total}
use Rattle.row_lists.proofs.Order.{one_list, same_number, rises_of}
use Rattle.row_lists.specs.Lists.{named, IsStored, KeepsAll, IsIn, AreStoredLists, IsOfBlock, SatisfiesNames}
use Rattle.row_lists.specs.Formulas.{table_at, IsFrame, AreWithin, name_in, IsRelevantTo, HasNumberOf, IsBlockOf, IsBlock, AreNumbersOf, IsFormulaOf}
use Rattle.row_lists.specs.Picks.{IsTrueName, AreTruePicks}
use Rattle.row_lists.specs.Laws.{FormulaOfNames, ListsDecide, OneListFormula, ListClausesRise, PicksRejectLists}
use Rattle.row_lists.proofs.Words.{name_discrete, block-self, block-sym, block-trans}
use Rattle.cqa_model.proofs.Zips.{zip-one}
use Rattle.row_lists.proofs.Lists.{names_decide}

pub same-variable : (x y : Variable) → x.slot ≡ y.slot → x.place ≡ y.place → x ≡ y
same-variable x y a p = λ i. record { slot = a i; place = p i }

module _ (db : List Table) (frame : List ℕ) (lists : List (List RowId)) (f : Formula) (fr : IsFrame db frame) (w : AreWithin frame lists) (st : AreStoredLists db lists) (h : IsFormulaOf db frame lists f) where
  abbrev vars : List Variable
  vars = f.variables

  -- a stored row of a relevant block has a number
  numbered_for : (id : RowId) (s : ℕ) → s < length frame → table_at frame s ≡ id.table → IsStored db id → IsRelevantTo db lists id → (n : ℕ) × HasNumberOf frame vars id n
  numbered_for id s l e sid rel =
      let x : Variable = record { slot = s; place = id.place } in
      let is : name_in frame x ≡ id = same-name (name_in frame x) id e refl in
      let mx : Contains vars x = (h.variables.exactly x).1 (l, (subst (IsStored db) (sym is) sid, subst (IsRelevantTo db lists) (sym is) rel)) in
      let n = number_of vars x mx in
      (n.0, (x, n.1, is))

  number_in : (id : RowId) → IsIn lists id → (n : ℕ) × HasNumberOf frame vars id n
  number_in id i = let s = w id i in numbered_for id s.0 s.1 s.2 (st id i) (id, i, block-self db id)

  pub one_number : (id : RowId) (n m : ℕ) → HasNumberOf frame vars id n → HasNumberOf frame vars id m → n ≡ m
  one_number id n m (x, hx, ex) (y, hy, ey) =
      let e : name_in frame x ≡ name_in frame y = ex ∙ sym ey in
      let lx = ((h.variables.exactly x).0 (numbered vars n x hx)).0 in
      let ly = ((h.variables.exactly y).0 (numbered vars m y hy)).0 in
      let slot : x.slot ≡ y.slot = fr.apart x.slot y.slot lx ly (ap (λ (z : RowId). z.table) e) in
      let same : x ≡ y = same-variable x y slot (ap (λ (z : RowId). z.place) e) in
      same_number vars h.variables.in_order n m y (subst (HasNumber vars n) same hx) hy

  -- the numbers of a block
  block_numbers : (x : Variable) → (numbers : List ℕ) × IsBlockOf db frame vars x numbers
  block_numbers x = (
    passing dec_here 1 (length vars),
    record {
      rises = passing-rises dec_here 1 (length vars);
      exactly = λ n. (
        λ m. (passing-holds dec_here 1 (length vars) n m).0,
        λ p. let b = number_below vars n p.0 p.1 in passing-has dec_here 1 (length vars) n b.0 b.1 p,
      );
    },
  )
    where
      dec_here : (n : ℕ) → Dec ((y : Variable) × HasNumber vars n y × IsOfBlock db (name_in frame x) (name_in frame y))
      dec_here n = dec_number vars (λ y. IsOfBlock db (name_in frame x) (name_in frame y))
          (λ y. dec_both (ℕ_discrete (name_in frame x).table (name_in frame y).table) (dec_shares (key_at db (name_in frame x).table) (named db (name_in frame x)) (named db (name_in frame y)))) n

  -- a row of each variable's block is true
  block_true : (v : ℕ → Bool) → SatisfiesAll v (clauses f) → (x : Variable) → Contains vars x → (n : ℕ) × (y : Variable) × HasNumber vars n y × IsOfBlock db (name_in frame x) (name_in frame y) × (v n ≡ true)
  block_true v sat x m = go (block_numbers x)
    where
      of_literal : (numbers : List ℕ) → IsBlockOf db frame vars x numbers → ((l : Lit) × Contains (map positive numbers) l × (v l.var ≡ l.positive)) →
          (n : ℕ) × (y : Variable) × HasNumber vars n y × IsOfBlock db (name_in frame x) (name_in frame y) × (v n ≡ true)
      of_literal numbers b (l, ml, e) =
          let p = Contains-from_map positive numbers l ml in
          let y = (b.exactly p.0).0 p.1 in
          (p.0, y.0, y.1, y.2, subst (λ (z : Lit). v z.var ≡ z.positive) (sym p.2) e)

      go : ((numbers : List ℕ) × IsBlockOf db frame vars x numbers) → (n : ℕ) × (y : Variable) × HasNumber vars n y × IsOfBlock db (name_in frame x) (name_in frame y) × (v n ≡ true)
      go (numbers, b) = of_literal numbers b (sat (map positive numbers)
          (Contains-append_left (map (map positive) f.blocks) (map (map negative) f.witnesses) (map positive numbers)
          (Contains-map (map positive) f.blocks numbers ((h.blocks.exactly numbers).1 (x, m, b)))))

  -- a row of each list is false
  list_false : (v : ℕ → Bool) → SatisfiesAll v (clauses f) → (names : List RowId) → Contains lists names → (id : RowId) × Contains names id × ((n : ℕ) × HasNumberOf frame vars id n × (v n ≡ false))
  list_false v sat names m = go (zip-left (AreNumbersOf frame vars) lists f.witnesses h.witnesses names m)
    where
      go : ((numbers : List ℕ) × Contains f.witnesses numbers × AreNumbersOf frame vars names numbers) → (id : RowId) × Contains names id × ((n : ℕ) × HasNumberOf frame vars id n × (v n ≡ false))
      go (numbers, mn, a) = of_literal (sat (map negative numbers)
          (Contains-append_right (map (map positive) f.blocks) (map (map negative) f.witnesses) (map negative numbers) (Contains-map (map negative) f.witnesses numbers mn)))
        where
          of_literal : ((l : Lit) × Contains (map negative numbers) l × (v l.var ≡ l.positive)) → (id : RowId) × Contains names id × ((n : ℕ) × HasNumberOf frame vars id n × (v n ≡ false))
          of_literal (l, ml, e) =
              let p = Contains-from_map negative numbers l ml in
              let i = (a.exactly p.0).0 p.1 in
              (i.0, i.1, (p.0, i.2, subst (λ (z : Lit). v z.var ≡ z.positive) (sym p.2) e))

  -- from numbers to names
  abbrev IsTrue : (ℕ → Bool) → RowId → Type 0
  IsTrue v id = (n : ℕ) × (n < 1 + length vars) × (HasNumberOf frame vars id n × (v n ≡ true))

  dec_true : (v : ℕ → Bool) (id : RowId) → Dec (IsTrue v id)
  dec_true v id = dec_one_below (λ n. HasNumberOf frame vars id n × (v n ≡ true))
      (λ n. dec_both (dec_number vars (λ y. name_in frame y ≡ id) (λ y. name_discrete (name_in frame y) id) n) (Bool-discrete (v n) true)) (1 + length vars)

  to_names : IsSatisfiable f → (a : RowId → Bool) × SatisfiesNames db lists a
  to_names (v, sat) = ((λ id. is_yes (dec_true v id)), record { blocks = block; each = list })
    where
      block : (id : RowId) → IsIn lists id → (n : RowId) × IsStored db n × IsOfBlock db id n × (is_yes (dec_true v n) ≡ true)
      block id i = go (number_in id i)
        where
          go : ((n : ℕ) × HasNumberOf frame vars id n) → (n : RowId) × IsStored db n × IsOfBlock db id n × (is_yes (dec_true v n) ≡ true)
          go (n, (x, hx, e)) =
              let t = block_true v sat x (numbered vars n x hx) in
              let m = name_in frame t.1 in
              let my = (h.variables.exactly t.1).0 (numbered vars t.0 t.1 t.2) in
              (m, my.1.0, subst (λ z. IsOfBlock db z m) e t.3, yes_of (dec_true v m) (t.0, (number_below vars t.0 t.1 t.2).1, ((t.1, t.2, refl), t.4)))

      list : (names : List RowId) → Contains lists names → (id : RowId) × Contains names id × (is_yes (dec_true v id) ≡ false)
      list names m =
          let l = list_false v sat names m in
          (l.0, l.1, no_of (dec_true v l.0) (λ (p : IsTrue v l.0). clash (v l.2.0) (subst (λ k. v k ≡ true) (one_number l.0 p.0 l.2.0 p.2.0 l.2.1) p.2.1) l.2.2))

  -- from names to numbers
  abbrev value_at : (RowId → Bool) → Option Variable → Bool
  value_at a None = false
  value_at a (Some y) = a (name_in frame y)

  abbrev value_of : (RowId → Bool) → ℕ → Bool
  value_of a zero = false
  value_of a (suc k) = value_at a (slice_get vars k)

  value_is : (a : RowId → Bool) (n : ℕ) (y : Variable) → HasNumber vars n y → value_of a n ≡ a (name_in frame y)
  value_is a zero y hn = absurd hn
  value_is a (suc k) y hn = ap (value_at a) hn

  to_numbers : ((a : RowId → Bool) × SatisfiesNames db lists a) → IsSatisfiable f
  to_numbers (a, s) = (
    value_of a,
    λ c m. elim (Contains-append_cases (map (map positive) f.blocks) (map (map negative) f.witnesses) c m) [
      | inl b ↦ of_block c (Contains-from_map (map positive) f.blocks c b)
      | inr u ↦ of_list c (Contains-from_map (map negative) f.witnesses c u)
    ],
  )
    where
      of_block : (c : List Lit) → ((numbers : List ℕ) × Contains f.blocks numbers × (map positive numbers ≡ c)) → Satisfies (value_of a) c
      of_block c (numbers, m, e) = subst (λ d. Satisfies (value_of a) d) e (block ((h.blocks.exactly numbers).0 m))
        where
          block : IsBlock db frame vars numbers → Satisfies (value_of a) (map positive numbers)
          block (x, mx, b) = of_row rel (s.blocks rel.0 rel.1)
            where
              in_vars : (x.slot < length frame) × (IsStored db (name_in frame x) × IsRelevantTo db lists (name_in frame x))
              in_vars = (h.variables.exactly x).0 mx

              rel : IsRelevantTo db lists (name_in frame x)
              rel = in_vars.1.1

              of_row : (r : IsRelevantTo db lists (name_in frame x)) → ((n : RowId) × IsStored db n × IsOfBlock db r.0 n × (a n ≡ true)) → Satisfies (value_of a) (map positive numbers)
              of_row r (n, sn, bn, an) =
                  let whole = block-trans db (name_in frame x) r.0 n r.2 bn in
                  let k = numbered_for n x.slot in_vars.0 whole.0 sn (r.0, r.1, block-sym db r.0 n bn) in
                  let z = k.1.0 in
                  let hz : HasNumber vars k.0 z = k.1.1 in
                  let ez : name_in frame z ≡ n = k.1.2 in
                  (positive k.0, Contains-map positive numbers k.0 ((b.exactly k.0).1 (z, hz, subst (IsOfBlock db (name_in frame x)) (sym ez) whole)), value_is a k.0 z hz ∙ (ap a ez ∙ an))

      of_list : (c : List Lit) → ((numbers : List ℕ) × Contains f.witnesses numbers × (map negative numbers ≡ c)) → Satisfies (value_of a) c
      of_list c (numbers, m, e) = subst (λ d. Satisfies (value_of a) d) e (go (all_zip_right (AreNumbersOf frame vars) lists f.witnesses numbers h.witnesses m))
        where
          go : ((names : List RowId) × Contains lists names × AreNumbersOf frame vars names numbers) → Satisfies (value_of a) (map negative numbers)
          go (names, mn, an) =
              let p = s.each names mn in
              let k = number_in p.0 (names, mn, p.1) in
              (negative k.0, Contains-map negative numbers k.0 ((an.exactly k.0).1 (p.0, p.1, k.1)), value_is a k.0 k.1.0 k.1.1 ∙ (ap a k.1.2 ∙ p.2))

  -- a repair of true rows keeps no list whole
  rejected : (v : ℕ → Bool) (kept : List (List (List Value))) → SatisfiesAll v (clauses f) → AreTruePicks db frame vars v kept → (names : List RowId) → Contains lists names → KeepsAll db kept names → ⊥
  rejected v kept sat picks names m keeps = go (list_false v sat names m)
    where
      true_name : (id : RowId) → Contains names id → IsTrueName frame vars v id
      true_name id mid = of_number (number_in id (names, m, mid))
        where
          of_number : ((n : ℕ) × HasNumberOf frame vars id n) → IsTrueName frame vars v id
          of_number (n, (x, hx, e)) =
              let t = block_true v sat x (numbered vars n x hx) in
              let y = name_in frame t.1 in
              let my = (h.variables.exactly t.1).0 (numbered vars t.0 t.1 t.2) in
              picks.prefers id y (st id (names, m, mid)) my.1.0 (subst (λ z. IsOfBlock db z y) e t.3) (t.0, (t.1, t.2, refl), t.4) (keeps id mid)

      go : ((id : RowId) × Contains names id × ((n : ℕ) × HasNumberOf frame vars id n × (v n ≡ false))) → ⊥
      go (id, mid, (n, hn, en)) =
          let t = true_name id mid in
          clash (v n) (subst (λ k. v k ≡ true) {x = t.0} (one_number id t.0 n t.1 hn) t.2) en

pub formula_of_names : FormulaOfNames
formula_of_names db frame lists f fr w st h = (to_names db frame lists f fr w st h, to_numbers db frame lists f fr w st h)

pub lists_decide : ListsDecide
lists_decide db frame lists f d fr w st h = (
  λ forced v sat. let r = to_names db frame lists f fr w st h (v, sat) in (names_decide db lists d st).0 forced r.0 r.1,
  λ none. (names_decide db lists d st).1 (λ a s. let r = to_numbers db frame lists f fr w st h (a, s) in none r.0 r.1),
)

pub picks_reject_lists : PicksRejectLists
picks_reject_lists db frame lists f v kept fr w st h sat picks names m keeps = rejected db frame lists f fr w st h v kept sat picks names m keeps

-- ---- lists have one formula

pub one_list_formula : OneListFormula
one_list_formula db frame lists f g h k = whole variables (one_list (IsBlock db frame g.variables) f.blocks g.blocks (subst (λ xs. AreAllLists (IsBlock db frame xs) f.blocks) variables h.blocks) k.blocks)
    (zip-one (AreNumbersOf frame g.variables) lists f.witnesses g.witnesses one (subst (λ xs. AllZip (AreNumbersOf frame xs) lists f.witnesses) variables h.witnesses) k.witnesses)
  where
    variables : f.variables ≡ g.variables
    variables = one_sorted variable_cmp variable_total f.variables g.variables h.variables.in_order k.variables.in_order
        (λ x m. (k.variables.exactly x).1 ((h.variables.exactly x).0 m)) (λ x m. (h.variables.exactly x).1 ((k.variables.exactly x).0 m))

    one : (names : List RowId) (xs ys : List ℕ) → AreNumbersOf frame g.variables names xs → AreNumbersOf frame g.variables names ys → xs ≡ ys
    one names xs ys a b = one_sorted nat_cmp nat_cmp_total xs ys a.rises b.rises (λ n m. (b.exactly n).1 ((a.exactly n).0 m)) (λ n m. (a.exactly n).1 ((b.exactly n).0 m))

    whole : f.variables ≡ g.variables → f.blocks ≡ g.blocks → f.witnesses ≡ g.witnesses → f ≡ g
    whole a b c = λ i. record { variables = a i; blocks = b i; witnesses = c i }

-- ---- the literals of each clause rise

pub list_clauses_rise : ListClausesRise
list_clauses_rise db frame lists f h c m = elim (Contains-append_cases (map (map positive) f.blocks) (map (map negative) f.witnesses) c m) [
  | inl b ↦ let p = Contains-from_map (map positive) f.blocks c b in
      let x = (h.blocks.exactly p.0).0 p.1 in
      rises_of (length f.variables) positive (λ n. refl) p.0 c p.2 x.2.rises (λ n mn. let y = (x.2.exactly n).0 mn in number_below f.variables n y.0 y.1)
  | inr b ↦ let p = Contains-from_map (map negative) f.witnesses c b in
      let w = all_zip_right (AreNumbersOf frame f.variables) lists f.witnesses p.0 h.witnesses p.1 in
      rises_of (length f.variables) negative (λ n. refl) p.0 c p.2 w.2.rises (λ n mn. let y = (w.2.exactly n).0 mn in number_below f.variables n y.2.0 y.2.1)
]
