-- The clauses of a row have a satisfying assignment exactly where the rows have one.
use Rattle.std.proofs.Common.{◌≡◌, ℕ, zero, suc, ◌<◌, ◌+◌, ◌⊎◌, inl, inr, List, length, get_or, map, Option, Some, None, refl, sym, ◌∙◌, ap, subst, Contains, slice_get, Bool, true, false}
use Rattle.std.proofs.lemmas.Option.{get_or_from_slice_get}
use Rattle.std.proofs.lemmas.List.Elements.{Contains-get_or, Contains-append_left, Contains-append_right, Contains-append_cases}
use Rattle.std.proofs.Math.Bool.{Bool-discrete}
use native.Mathlib.Decide.{ℕ_discrete}
use Rattle.cqa_value.specs.declared.value.Value.{Value}
use Rattle.cqa_value.proofs.Words.{Contains-map, Contains-from_map, clash, yes_of, no_of, is_yes, dec_one_below}
use Rattle.cqa_model.specs.declared.query.Query.{Query}
use Rattle.cqa_model.specs.Database.{Table, stored}
use Rattle.cqa_model.specs.Repairs.{SharesKey}
use Rattle.cqa_model.specs.Query.{atom_key, rows_of, row_at, IsWitness}
use Rattle.cqa_model.specs.Formula.{IsRelevant, Satisfies as RowsSatisfy}
use Rattle.cqa_model.proofs.Classic.{dec_both, find_below, choose}
use Rattle.cqa_model.proofs.Values.{dec_by, row_discrete}
use Rattle.cqa_model.proofs.Repairs.{shares-sym, shares-trans}
use Rattle.cqa_model.proofs.Databases as databases
use Rattle.cnf_form.specs.declared.formula.Lit.{Lit}
use Rattle.cnf_form.specs.Literals.{Satisfies, SatisfiesAll}
use Rattle.row_lists.specs.Clauses.{Variable, HasNumber, Formula, positive, negative, clauses}
use Rattle.repair_clauses.specs.Clauses.{SharesBlock, IsBlockOfVariable, IsNumberOf, IsOfWitness, IsFormula, variable_row}
use Rattle.row_lists.specs.Clauses.{IsSatisfiable}
use Rattle.repair_clauses.specs.Laws.{ClausesAreExact, ClausesDecide}
use Rattle.row_lists.proofs.Numbers.{place_of}
use Rattle.row_lists.proofs.Rows.{number_below, number_of, numbered, dec_number}
use Rattle.repair_clauses.proofs.Rows.{stored_row, is_stored, is_relevant, variable_at, block_numbers}

module _ (q : Query) (db : List Table) (row : List Value) (f : Formula) (h : IsFormula q db row f) where
  -- a variable of each variable's block is true
  pub block_true : (v : ℕ → Bool) → SatisfiesAll v (clauses f) → (x : Variable) → Contains f.variables x →
      (n : ℕ) × (y : Variable) × HasNumber f.variables n y × SharesBlock q db x y × (v n ≡ true)
  block_true v sat x m = go (block_numbers q db f.variables x)
    where
      of_literal : (numbers : List ℕ) → IsBlockOfVariable q db f.variables x numbers → ((l : Lit) × Contains (map positive numbers) l × (v l.var ≡ l.positive)) →
          (n : ℕ) × (y : Variable) × HasNumber f.variables n y × SharesBlock q db x y × (v n ≡ true)
      of_literal numbers b (l, ml, e) =
          let p = Contains-from_map positive numbers l ml in
          let y = (b.exactly p.0).0 p.1 in
          (p.0, y.0, y.1, y.2, subst (λ (z : Lit). v z.var ≡ z.positive) (sym p.2) e)

      go : ((numbers : List ℕ) × IsBlockOfVariable q db f.variables x numbers) → (n : ℕ) × (y : Variable) × HasNumber f.variables n y × SharesBlock q db x y × (v n ≡ true)
      go (numbers, b) = of_literal numbers b (sat (map positive numbers)
          (Contains-append_left (map (map positive) f.blocks) (map (map negative) f.witnesses) (map positive numbers)
          (Contains-map (map positive) f.blocks numbers ((h.blocks.exactly numbers).1 (x, m, b)))))

  -- not all numbers of a witness are true
  pub witness_false : (v : ℕ → Bool) → SatisfiesAll v (clauses f) → (numbers : List ℕ) → IsOfWitness q db row f.variables numbers →
      (F : ℕ) × (F < length q.atoms) × (v (get_or numbers F 0) ≡ false)
  witness_false v sat numbers w = of_literal (sat (map negative numbers)
      (Contains-append_right (map (map positive) f.blocks) (map (map negative) f.witnesses) (map negative numbers)
      (Contains-map (map negative) f.witnesses numbers ((h.witnesses.exactly numbers).1 w))))
    where
      of_literal : ((l : Lit) × Contains (map negative numbers) l × (v l.var ≡ l.positive)) → (F : ℕ) × (F < length q.atoms) × (v (get_or numbers F 0) ≡ false)
      of_literal (l, ml, e) =
          let p = Contains-from_map negative numbers l ml in
          let at = place_of numbers p.0 p.1 in
          let here : get_or numbers at.0 0 ≡ p.0 = get_or_from_slice_get numbers at.0 p.0 0 at.2 in
          (at.0, subst (λ k. at.0 < k) w.size at.1, ap v here ∙ subst (λ (z : Lit). v z.var ≡ z.positive) (sym p.2) e)

  -- so the rows of a witness don't all have a true number
  pub not_all_true : (v : ℕ → Bool) → SatisfiesAll v (clauses f) → (w : List (List Value)) → IsWitness q (stored db) row w →
      ((F : ℕ) → F < length q.atoms → (n : ℕ) × (IsNumberOf q db f.variables F (row_at w F) n × (v n ≡ true))) → ⊥
  not_all_true v sat w hw all = go (choose 0 (length q.atoms) (λ F n. IsNumberOf q db f.variables F (row_at w F) n × (v n ≡ true)) all)
    where
      go : ((numbers : List ℕ) × (length numbers ≡ length q.atoms) × ((F : ℕ) → F < length q.atoms → IsNumberOf q db f.variables F (row_at w F) (get_or numbers F 0) × (v (get_or numbers F 0) ≡ true))) → ⊥
      go (numbers, size, each) =
          let p = witness_false v sat numbers (record { rows = w; witness = hw; size = size; each = λ F l. (each F l).0 }) in
          clash (v (get_or numbers p.0 0)) (each p.0 p.1).1 p.2

  -- from numbers to rows
  abbrev IsTrueRow : (ℕ → Bool) → ℕ → List Value → Type 0
  IsTrueRow v F x = (n : ℕ) × (n < 1 + length f.variables) × (IsNumberOf q db f.variables F x n × (v n ≡ true))

  dec_of : (F : ℕ) (x : List Value) (n : ℕ) → Dec (IsNumberOf q db f.variables F x n)
  dec_of F x n = dec_by (λ p. (p.0, p.1, p.2.0, p.2.1)) (λ p. (p.0, p.1, (p.2, p.3)))
      (dec_number f.variables (λ y. (y.slot ≡ F) × (variable_row q db y ≡ x)) (λ y. dec_both (ℕ_discrete y.slot F) (row_discrete (variable_row q db y) x)) n)

  dec_true : (v : ℕ → Bool) (F : ℕ) (x : List Value) → Dec (IsTrueRow v F x)
  dec_true v F x = dec_one_below (λ n. IsNumberOf q db f.variables F x n × (v n ≡ true)) (λ n. dec_both (dec_of F x n) (Bool-discrete (v n) true)) (1 + length f.variables)

  true_of : (v : ℕ → Bool) (F : ℕ) (x : List Value) (n : ℕ) → IsNumberOf q db f.variables F x n → v n ≡ true → IsTrueRow v F x
  true_of v F x n p e = (n, (number_below f.variables n p.0 p.1).1, (p, e))

  to_rows : IsSatisfiable f → (a : ℕ → List Value → Bool) × RowsSatisfy q (stored db) row a
  to_rows (v, sat) = (a, record { blocks = λ F l x m rel. block F l x (variable_at q db row f.variables h.variables F l x m rel); witnesses = λ w hw. witness w hw (find_below (λ F. IsTrueRow v F (row_at w F)) (λ F. dec_true v F (row_at w F)) (length q.atoms)) })
    where
      a : ℕ → List Value → Bool
      a F x = is_yes (dec_true v F x)

      block : (F : ℕ) → F < length q.atoms → (x : List Value) → ((y : Variable) × Contains f.variables y × (y.slot ≡ F) × (variable_row q db y ≡ x)) →
          (z : List Value) × Contains (rows_of q (stored db) F) z × SharesKey (atom_key q F) x z × (is_yes (dec_true v F z) ≡ true)
      block F l x (y, my, ya, ye) = go (block_true v sat y my)
        where
          go : ((n : ℕ) × (z : Variable) × HasNumber f.variables n z × SharesBlock q db y z × (v n ≡ true)) →
              (z : List Value) × Contains (rows_of q (stored db) F) z × SharesKey (atom_key q F) x z × (is_yes (dec_true v F z) ≡ true)
          go (n, z, hz, s, e) =
              let za : z.slot ≡ F = sym s.0 ∙ ya in (
                variable_row q db z,
                subst (λ G. Contains (rows_of q (stored db) G) (variable_row q db z)) za (stored_row q db z (is_stored q db row f.variables h.variables z (numbered f.variables n z hz))),
                subst (λ G. SharesKey (atom_key q G) x (variable_row q db z)) ya (subst (λ u. SharesKey (atom_key q y.slot) u (variable_row q db z)) ye s.1),
                yes_of (dec_true v F (variable_row q db z)) (true_of v F (variable_row q db z) n (z, hz, za, refl) e),
              )

      witness : (w : List (List Value)) → IsWitness q (stored db) row w →
          ((F : ℕ) → F < length q.atoms → IsTrueRow v F (row_at w F)) ⊎ ((F : ℕ) × (F < length q.atoms) × (IsTrueRow v F (row_at w F) → ⊥)) →
          (F : ℕ) × (F < length q.atoms) × (is_yes (dec_true v F (row_at w F)) ≡ false)
      witness w hw (inr n) = (n.0, n.1, no_of (dec_true v n.0 (row_at w n.0)) n.2)
      witness w hw (inl all) = absurd (not_all_true v sat w hw (λ F l. ((all F l).0, (all F l).2)))

  -- from rows to numbers
  abbrev value_at : (ℕ → List Value → Bool) → Option Variable → Bool
  value_at a None = false
  value_at a (Some y) = a y.slot (variable_row q db y)

  abbrev value_of : (ℕ → List Value → Bool) → ℕ → Bool
  value_of a zero = false
  value_of a (suc k) = value_at a (slice_get f.variables k)

  value_is : (a : ℕ → List Value → Bool) (n : ℕ) (y : Variable) → HasNumber f.variables n y → value_of a n ≡ a y.slot (variable_row q db y)
  value_is a zero y hn = absurd hn
  value_is a (suc k) y hn = ap (value_at a) hn

  to_numbers : ((a : ℕ → List Value → Bool) × RowsSatisfy q (stored db) row a) → IsSatisfiable f
  to_numbers (a, s) = (
    value_of a,
    λ c m. elim (Contains-append_cases (map (map positive) f.blocks) (map (map negative) f.witnesses) c m) [
      | inl b ↦ of_block c (Contains-from_map (map positive) f.blocks c b)
      | inr w ↦ of_witness c (Contains-from_map (map negative) f.witnesses c w)
    ],
  )
    where
      of_block : (c : List Lit) → ((numbers : List ℕ) × Contains f.blocks numbers × (map positive numbers ≡ c)) → Satisfies (value_of a) c
      of_block c (numbers, m, e) = subst (λ d. Satisfies (value_of a) d) e (block ((h.blocks.exactly numbers).0 m))
        where
          number : (x : Variable) → IsBlockOfVariable q db f.variables x numbers → (y : List Value) → SharesKey (atom_key q x.slot) (variable_row q db x) y → a x.slot y ≡ true →
              ((z : Variable) × Contains f.variables z × (z.slot ≡ x.slot) × (variable_row q db z ≡ y)) → Satisfies (value_of a) (map positive numbers)
          number x b y sy ey (z, mz, za, ze) =
              let p = number_of f.variables z mz in
              let same : SharesKey (atom_key q x.slot) (variable_row q db x) (variable_row q db z) = subst (λ u. SharesKey (atom_key q x.slot) (variable_row q db x) u) (sym ze) sy in
              let ea : a z.slot (variable_row q db z) ≡ true = ap (λ G. a G (variable_row q db z)) za ∙ ap (a x.slot) ze ∙ ey in
              (positive p.0, Contains-map positive numbers p.0 ((b.exactly p.0).1 (z, p.1, (sym za, same))), value_is a p.0 z p.1 ∙ ea)

          row_true : (x : Variable) → Contains f.variables x → IsBlockOfVariable q db f.variables x numbers → IsRelevant q (stored db) row x.slot (variable_row q db x) →
              ((y : List Value) × Contains (rows_of q (stored db) x.slot) y × SharesKey (atom_key q x.slot) (variable_row q db x) y × (a x.slot y ≡ true)) → Satisfies (value_of a) (map positive numbers)
          row_true x mx b rel (y, my, sy, ey) = number x b y sy ey (variable_at q db row f.variables h.variables x.slot (is_stored q db row f.variables h.variables x mx).0 y my
              (rel.0, rel.1, shares-trans (atom_key q x.slot) y (variable_row q db x) (row_at rel.0 x.slot) (shares-sym (atom_key q x.slot) (variable_row q db x) y sy) rel.2))

          block : ((x : Variable) × Contains f.variables x × IsBlockOfVariable q db f.variables x numbers) → Satisfies (value_of a) (map positive numbers)
          block (x, mx, b) =
              let st = is_stored q db row f.variables h.variables x mx in
              let rel = is_relevant q db row f.variables h.variables x mx in
              row_true x mx b rel (s.blocks x.slot st.0 (variable_row q db x) (stored_row q db x st) rel)

      of_witness : (c : List Lit) → ((numbers : List ℕ) × Contains f.witnesses numbers × (map negative numbers ≡ c)) → Satisfies (value_of a) c
      of_witness c (numbers, m, e) = subst (λ d. Satisfies (value_of a) d) e (go ((h.witnesses.exactly numbers).0 m))
        where
          go : IsOfWitness q db row f.variables numbers → Satisfies (value_of a) (map negative numbers)
          go w =
              let p = s.witnesses w.rows w.witness in
              let y = w.each p.0 p.1 in
              let ea : a y.0.slot (variable_row q db y.0) ≡ false = ap (λ G. a G (variable_row q db y.0)) y.2 ∙ ap (a p.0) y.3 ∙ p.2 in (
                negative (get_or numbers p.0 0),
                Contains-map negative numbers (get_or numbers p.0 0) (Contains-get_or numbers p.0 0 (subst (λ k. p.0 < k) (sym w.size) p.1)),
                value_is a (get_or numbers p.0 0) y.0 y.1 ∙ ea,
              )

pub clauses_are_exact : ClausesAreExact
clauses_are_exact db q row f h = (to_rows q db row f h, to_numbers q db row f h)

pub clauses_decide : ClausesDecide
clauses_decide db q row f fits h = (
  λ certain v sat. let r = to_rows q db row f h (v, sat) in (databases.formula_is_exact db q row fits).0 certain r.0 r.1,
  λ none. (databases.formula_is_exact db q row fits).1 (λ a s. let r = to_numbers q db row f h (a, s) in none r.0 r.1),
)
