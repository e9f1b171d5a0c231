-- The formula of a row: its variables, its blocks and its witnesses are lists, since what is in them is decided.
use Rattle.std.proofs.Common.{◌≡◌, ◌<◌, ◌+◌, ℕ, List, [], ◌∷◌, length, map, flat_map, Bool, Ordering, Less, Equal, Greater, refl, ap, subst, arith, Contains, slice_index}
use Rattle.std.specs.Ordering.{nat_cmp, ordering_then}
use Rattle.std.specs.Cmp.Lexicographic.{slice_cmp}
use Rattle.std.specs.List.{range_with_len}
use Rattle.std.proofs.lemmas.Cmp.{nat_cmp_total, nat_list_cmp_total}
use native.Mathlib.Decide.{ℕ_discrete, dec_lt}
use Rattle.cqa_value.specs.declared.value.Value.{Value}
use Rattle.cqa_value.proofs.Words.{Contains-map, Contains-from_map, Contains-flat_map, Contains-range, dec_both}
use Rattle.cqa_model.specs.declared.query.Query.{Query}
use Rattle.cqa_model.specs.Database.{Table, stored}
use Rattle.cqa_model.specs.Repairs.{SharesKey}
use Rattle.cqa_model.specs.Query.{atom_key, rows_of, row_at}
use Rattle.cqa_model.specs.Formula.{IsRelevant}
use Rattle.cqa_model.proofs.Classic.{dec_below}
use Rattle.cqa_model.proofs.Repairs.{dec_shares}
use Rattle.cqa_model.proofs.Values.{dec_by, row_discrete}
use Rattle.cnf_form.specs.declared.formula.Lit.{Lit}
use Rattle.cnf_form.specs.declared.formula.Clause.{Clause}
use Rattle.cnf_form.specs.declared.log.Step.{Step}
use Rattle.cnf_form.specs.Literals.{literals, SatisfiesAll}
use Rattle.cnf_form.specs.Logs.{Refutes, AreConsecutive}
use Rattle.join_access.proofs.Sorted.{one_sorted}
use Rattle.row_lists.specs.declared.formula.Encoded.{Encoded}
use Rattle.row_lists.specs.Clauses.{Variable, variable_cmp, AreAllLists, Formula, clauses}
use Rattle.repair_clauses.specs.Clauses.{variable_row, IsStoredVariable, AreRowVariables, IsBlockOfVariable, AreBlockNumbers, IsNumberOf, IsOfWitness, IsFormula, variable_name}
use Rattle.repair_clauses.specs.Encodings.{IsEncoded}
use Rattle.row_lists.specs.Spans.{at}
use Rattle.repair_clauses.proofs.Exact.{clauses_decide}
use Rattle.row_lists.proofs.Rows.{variable_total}
use Rattle.row_lists.proofs.Rows.{dec_number, number_below}
use Rattle.repair_clauses.proofs.Rows.{block_numbers}
use Rattle.row_lists.proofs.Order.{from_equal}
use Rattle.existence_law.specs.Formulas.{FormulasExist, CertainIsRefuted}
use Rattle.existence_law.proofs.Choices.{choices, choices-all}
use Rattle.join_witness.proofs.Listing.{dec_witness_with, numbers_exact}
use Rattle.existence_law.proofs.Refuting.{refutations_exist}
use Rattle.join_witness.proofs.Sorting.{sorted, in_order, members, decided_list}

pub both_equal : (o p : Ordering) → ordering_then o p ≡ Equal → (o ≡ Equal) × (p ≡ Equal)
both_equal Less p e = absurd (cc e)
both_equal Equal p e = (refl, e)
both_equal Greater p e = absurd (cc e)

pub variable_exact : (x y : Variable) → variable_cmp x y ≡ Equal → x ≡ y
variable_exact x y e =
    let h = both_equal (nat_cmp x.slot y.slot) (nat_cmp x.place y.place) e in
    let a : x.slot ≡ y.slot = from_equal x.slot y.slot h.0 in
    let p : x.place ≡ y.place = from_equal x.place y.place h.1 in
    λ i. record { slot = a i; place = p i }

-- where each variable has one list of numbers, those of some variables are lists in order, each once
module _ (Is : Variable → List ℕ → Type 0) (one : (x : Variable) (a b : List ℕ) → Is x a → Is x b → a ≡ b) (found : (x : Variable) → (numbers : List ℕ) × Is x numbers) (xs : List Variable) where
  numbers_of : Variable → List ℕ
  numbers_of x = (found x).0

  are_numbers : (x : Variable) → Is x (numbers_of x)
  unfolding numbers_of
  are_numbers x = (found x).1

  pub all_numbers : (lists : List (List ℕ)) × AreAllLists (λ numbers. (x : Variable) × Contains xs x × Is x numbers) lists
  all_numbers = (
    sorted (slice_cmp nat_cmp) nat_list_cmp_total (map numbers_of xs),
    record {
      in_order = in_order (slice_cmp nat_cmp) nat_list_cmp_total (map numbers_of xs);
      exactly = λ numbers.
          let same = members (slice_cmp nat_cmp) nat_list_cmp_total (map numbers_of xs) (λ a b m n e. numbers_exact a b e) numbers in (
            λ m. (let p = Contains-from_map numbers_of xs numbers (same.0 m) in (p.0, p.1, subst (Is p.0) p.2 (are_numbers p.0))),
            λ h. same.1 (subst (Contains (map numbers_of xs)) (one h.0 (numbers_of h.0) numbers (are_numbers h.0) h.2) (Contains-map numbers_of xs h.0 h.1)),
          );
    },
  )

module _ (db : List Table) (q : Query) (row : List Value) where
  -- ---- the variables

  IsVariable : Variable → Type 0
  IsVariable x = IsStoredVariable q db x × IsRelevant q (stored db) row x.slot (variable_row q db x)

  dec_variable : (x : Variable) → Dec (IsVariable x)
  unfolding IsVariable
  dec_variable x = dec_both (dec_both (dec_lt x.slot (length q.atoms)) (dec_lt x.place (length (rows_of q (stored db) x.slot))))
      (dec_witness_with q (stored db) row (λ w. SharesKey (atom_key q x.slot) (variable_row q db x) (row_at w x.slot)) (λ w. dec_shares (atom_key q x.slot) (variable_row q db x) (row_at w x.slot)))

  abbrev stored_variables : List Variable
  stored_variables = flat_map (λ F. map (at F) (range_with_len 0 (length (rows_of q (stored db) F)))) (range_with_len 0 (length q.atoms))

  variable_stored : (x : Variable) → IsVariable x → Contains stored_variables x
  unfolding IsVariable
  variable_stored x h =
      let a = h.0.0 in
      let p = h.0.1 in
      Contains-flat_map (λ F. map (at F) (range_with_len 0 (length (rows_of q (stored db) F)))) (range_with_len 0 (length q.atoms)) x.slot x
      (Contains-range 0 (length q.atoms) x.slot (omega arith) (omega (arith, a)))
      (Contains-map (at x.slot) (range_with_len 0 (length (rows_of q (stored db) x.slot))) x.place (Contains-range 0 (length (rows_of q (stored db) x.slot)) x.place (omega arith) (omega (arith, p))))

  variables : (xs : List Variable) × AreRowVariables q db row xs
  unfolding IsVariable
  variables =
      let l = decided_list variable_cmp variable_total IsVariable dec_variable (λ x y h k e. variable_exact x y e) stored_variables variable_stored in
      (l.0, record { in_order = l.1.0; exactly = l.1.1 })

  module _ (xs : List Variable) where
    -- ---- the numbers of blocks

    one_block : (x : Variable) (a b : List ℕ) → IsBlockOfVariable q db xs x a → IsBlockOfVariable q db xs x b → a ≡ b
    one_block x a b h k = one_sorted nat_cmp nat_cmp_total a b h.rises k.rises (λ n m. (k.exactly n).1 ((h.exactly n).0 m)) (λ n m. (h.exactly n).1 ((k.exactly n).0 m))

    block_lists : (lists : List (List ℕ)) × AreAllLists (AreBlockNumbers q db xs) lists
    block_lists = all_numbers (IsBlockOfVariable q db xs) one_block (block_numbers q db xs) xs

    -- ---- the numbers of witnesses

    dec_number_of : (F : ℕ) (x : List Value) (n : ℕ) → Dec (IsNumberOf q db xs F x n)
    dec_number_of F x n = dec_by (λ h. (h.0, h.1, h.2.0, h.2.1)) (λ h. (h.0, h.1, (h.2, h.3)))
        (dec_number xs (λ y. (y.slot ≡ F) × (variable_row q db y ≡ x)) (λ y. dec_both (ℕ_discrete y.slot F) (row_discrete (variable_row q db y) x)) n)

    dec_of_witness : (numbers : List ℕ) → Dec (IsOfWitness q db row xs numbers)
    dec_of_witness numbers = dec_by (λ h. record { rows = h.0; witness = h.1; size = h.2.0; each = h.2.1 }) (λ w. (w.rows, w.witness, (w.size, w.each)))
        (dec_witness_with q (stored db) row (λ w. (length numbers ≡ length q.atoms) × ((F : ℕ) → F < length q.atoms → IsNumberOf q db xs F (row_at w F) (slice_index numbers F)))
        (λ w. dec_both (ℕ_discrete (length numbers) (length q.atoms))
        (dec_below (λ F. IsNumberOf q db xs F (row_at w F) (slice_index numbers F)) (λ F. dec_number_of F (row_at w F) (slice_index numbers F)) (length q.atoms))))

    number_lists : List (List ℕ)
    number_lists = choices (length q.atoms) (λ F. range_with_len 0 (1 + length xs))

    of_witness_listed : (numbers : List ℕ) → IsOfWitness q db row xs numbers → Contains number_lists numbers
    unfolding number_lists
    of_witness_listed numbers w = choices-all 0 (length q.atoms) (λ F. range_with_len 0 (1 + length xs)) numbers w.size
        (λ F l. let b = (number_below xs (slice_index numbers F) (w.each F l).0 (w.each F l).1).1 in Contains-range 0 (1 + length xs) (slice_index numbers F) (omega arith) (omega (arith, b)))

    witness_lists : (lists : List (List ℕ)) × AreAllLists (IsOfWitness q db row xs) lists
    witness_lists =
        let l = decided_list (slice_cmp nat_cmp) nat_list_cmp_total (IsOfWitness q db row xs) dec_of_witness (λ x y h k e. numbers_exact x y e) number_lists of_witness_listed in
        (l.0, record { in_order = l.1.0; exactly = l.1.1 })

  formula : (f : Formula) × IsFormula q db row f
  formula = (
    record { variables = variables.0; blocks = (block_lists variables.0).0; witnesses = (witness_lists variables.0).0 },
    record { variables = variables.1; blocks = (block_lists variables.0).1; witnesses = (witness_lists variables.0).1 },
  )

abbrev pub as_clauses : List (List Lit) → List Clause
as_clauses cs = map (λ c. record { lits = c }) cs

pub same_literals : (cs : List (List Lit)) → literals (as_clauses cs) ≡ cs
same_literals [] = refl
same_literals (c ∷ cs) = ap (λ ds. c ∷ ds) (same_literals cs)

encoded : (db : List Table) (q : Query) (row : List Value) → (e : Encoded) × IsEncoded q db row e
encoded db q row = make (formula db q row)
  where
    make : ((f : Formula) × IsFormula q db row f) → (e : Encoded) × IsEncoded q db row e
    make (f, h) = (
      record { cnf = record { vars = length f.variables; clauses = as_clauses (clauses f) }; rows = map (variable_name q) f.variables },
      record { formula = f; is = h; vars = refl; are = same_literals (clauses f); rows = refl },
    )

pub formulas_exist : FormulasExist
formulas_exist = record { formula = formula; encoded = encoded }

pub certain_is_refuted : CertainIsRefuted
certain_is_refuted db q row fits certain = go (encoded db q row)
  where
    go : ((e : Encoded) × IsEncoded q db row e) → (e : Encoded) × (steps : List Step) × (IsEncoded q db row e × Refutes e.cnf steps × AreConsecutive (length e.cnf.clauses) steps)
    go (e, h) =
        let unsat : (v : ℕ → Bool) → SatisfiesAll v (literals e.cnf.clauses) → ⊥ =
        λ v s. (clauses_decide db q row h.formula fits h.is).0 certain v (subst (SatisfiesAll v) h.are s) in
        let r = refutations_exist e.cnf unsat in
        (e, r.0, (h, r.1.0, r.1.1))
