-- A formula has no more variables than the tables have rows, so its numbers can be written.
use Rattle.std.proofs.Common.{◌≡◌, ◌≢◌, ℕ, zero, suc, ◌+◌, ◌<◌, ◌≤◌, inl, inr, List, [], ◌∷◌, length, get_or, map, refl, ap, sym, ◌∙◌, subst, arith, Contains, false, Less}
use Rattle.std.proofs.Math.Dec.{eqb}
use Rattle.std.proofs.lemmas.Bool.{cases_Bool}
use Rattle.std.proofs.lemmas.Bool.Decides.{Decides-eqb}
use Rattle.std.specs.List.Sorted.{IsStrictlySortedBy}
use Rattle.std.proofs.lemmas.List.{length-map, get_or-map}
use Rattle.std.proofs.lemmas.List.Elements.{Contains-get_or}
use Rattle.std.proofs.lemmas.Map.Keys.{IsDistinct-from_apart, Less-from_sorted}
use Rattle.std.proofs.lemmas.Map.Steps.{length-le_from_distinct_below}
use Rattle.std.proofs.lemmas.Map.Views.{Contains-from_any}
use Rattle.cqa_value.proofs.Words.{Contains-from_map}
use Rattle.cqa_model.specs.Database.{Table, IsDatabase, stored, row_total}
use Rattle.cnf_form.specs.declared.formula.Cnf.{Cnf}
use Rattle.cnf_form.specs.declared.formula.Lit.{Lit}
use Rattle.cnf_form.specs.declared.header.TheConstants.{MOST_CLAUSES}
use Rattle.cnf_form.specs.Literals.{AreVarsInRange, literals}
use Rattle.cnf_form.specs.Writing.{IsWritable}
use Rattle.join_access.proofs.Sorted.{not_less}
use Rattle.row_lists.specs.Clauses.{Variable, variable_cmp, Rises}
use Rattle.row_lists.specs.Formulas.{table_at}
use Rattle.row_lists.specs.Laws.{ListFormulaIsWritable}
use Rattle.row_lists.proofs.Rows.{variable_total}
use Rattle.row_lists.proofs.Formulas.{list_clauses_rise}

-- the rows of the tables before a place
before : List Table → ℕ → ℕ
before [] t = 0
before (table ∷ db) zero = 0
before (table ∷ db) (suc t) = length table.rows + before db t

row-below : (db : List Table) (t p : ℕ) → p < length (get_or (stored db) t []) → before db t + p < row_total db
unfolding before
row-below [] t p l = absurd (omega (arith, l))
row-below (table ∷ db) zero p l = omega (arith, l)
row-below (table ∷ db) (suc t) p l = let more = row-below db t p l in omega (arith, more)

-- rows of different tables have different numbers
row-apart : (db : List Table) (t p u r : ℕ) → p < length (get_or (stored db) t []) → r < length (get_or (stored db) u []) → before db t + p ≡ before db u + r → t ≡ u
unfolding before
row-apart [] t p u r l m e = absurd (omega (arith, l))
row-apart (table ∷ db) zero p zero r l m e = refl
row-apart (table ∷ db) zero p (suc u) r l m e = absurd (omega (arith, l, e))
row-apart (table ∷ db) (suc t) p zero r l m e = absurd (omega (arith, m, e))
row-apart (table ∷ db) (suc t) p (suc u) r l m e = ap suc (row-apart db t p u r l m (omega (arith, e)))

unequal : (x y : ℕ) → x ≢ y → eqb x y ≡ false
unequal x y n = elim (cases_Bool (eqb x y)) [ inl e ↦ absurd (n ((Decides-eqb x y).0 e)) | inr e ↦ e ]

-- variables of rows of tables, which have different tables for different slots
module _ (db : List Table) (table : ℕ → ℕ) (variables : List Variable) (in_order : IsStrictlySortedBy variable_cmp variables)
    (there : (x : Variable) → Contains variables x → x.place < length (get_or (stored db) (table x.slot) []))
    (apart : (x y : Variable) → Contains variables x → Contains variables y → table x.slot ≡ table y.slot → x.slot ≡ y.slot) where
  -- the number of a variable's row among those of all tables
  code : Variable → ℕ
  code x = before db (table x.slot) + x.place

  code-below : (x : Variable) → Contains variables x → code x < row_total db
  unfolding code
  code-below x m = row-below db (table x.slot) x.place (there x m)

  code-one : (x y : Variable) → Contains variables x → Contains variables y → code x ≡ code y → x ≡ y
  unfolding code
  code-one x y mx my e =
      let t : table x.slot ≡ table y.slot = row-apart db (table x.slot) x.place (table y.slot) y.place (there x mx) (there y my) e in
      let a : x.slot ≡ y.slot = apart x y mx my t in
      let b : before db (table x.slot) ≡ before db (table y.slot) = ap (before db) t in
      let p : x.place ≡ y.place = omega (arith, e, b) in
      λ i. record { slot = a i; place = p i }

  abbrev codes : List ℕ
  codes = map code variables

  abbrev blank : Variable
  blank = record { slot = 0; place = 0 }

  size : length codes ≡ length variables
  size = length-map variables code

  pub few-variables : length variables ≤ row_total db
  few-variables = let s = size in let b = below in omega (arith, s, b)
    where
      differ : (i j d : ℕ) → i < j → j < length codes → get_or codes i d ≢ get_or codes j d
      differ i j d l lj e =
          let s = size in
          let li : i < length variables = omega (arith, l, lj, s) in
          let lv : j < length variables = omega (arith, lj, s) in
          let same = sym (get_or-map code variables i blank d li) ∙ e ∙ get_or-map code variables j blank d lv in
          let one = code-one (get_or variables i blank) (get_or variables j blank) (Contains-get_or variables i blank li) (Contains-get_or variables j blank lv) same in
          not_less variable_cmp variable_total (get_or variables j blank)
          (subst (λ z. variable_cmp z (get_or variables j blank) ≡ Less) one (Less-from_sorted variable_cmp variables i j blank in_order l lv))

      member : (n : ℕ) → Contains codes n → n < row_total db
      member n m = let p = Contains-from_map code variables n m in subst (λ k. k < row_total db) p.2 (code-below p.0 p.1)

      below : length codes ≤ row_total db
      below = length-le_from_distinct_below codes (row_total db) (IsDistinct-from_apart eqb codes (λ i j d l lj. unequal (get_or codes i d) (get_or codes j d) (differ i j d l lj)))
          (λ n m. member n (Contains-from_any (λ a b e. (Decides-eqb a b).0 e) n codes m))

-- a formula of few variables and clauses, whose clauses rise
pub few_writable : (db : List Table) → IsDatabase db → (cnf : Cnf) (n : ℕ) (cs : List (List Lit)) → n ≤ row_total db → cnf.vars ≡ n → literals cnf.clauses ≡ cs → ((c : List Lit) → Contains cs c → Rises n c) →
    length cnf.clauses ≤ MOST_CLAUSES → IsWritable cnf
few_writable db valid cnf n cs few vars are rise few_clauses = record { vars = within; clauses = few_clauses; literals = in_range }
  where
    within : cnf.vars ≤ 10000000
    within = let r = valid.few_rows in omega (arith, few, r, vars)

    in_range : AreVarsInRange cnf
    in_range c m l ml =
        let r = (rise c (subst (λ xs. Contains xs c) are m)).in_range l ml in
        let low = r.0 in
        let high = r.1 in
        (low, omega (arith, high, vars))

pub list_formula_is_writable : ListFormulaIsWritable
list_formula_is_writable db frame lists e fr valid h few_clauses =
    let v = h.is.variables in
    let vars = h.formula.variables in
    few_writable db valid e.cnf (length vars) _ (few-variables db (table_at frame) vars v.in_order (λ x m. ((v.exactly x).0 m).1.0.1)
    (λ x y mx my e. fr.apart x.slot y.slot ((v.exactly x).0 mx).0 ((v.exactly y).0 my).0 e)) h.vars h.are (list_clauses_rise db frame lists h.formula h.is) few_clauses
