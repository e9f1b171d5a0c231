-- The formula of lists over tables: its variables, its blocks and the numbers of its lists are lists, since what is in them is decided.
use Rattle.std.proofs.Common.{◌≡◌, ◌↔◌, ◌<◌, ◌≤◌, ◌+◌, ℕ, List, length, map, flat_map, arith, Contains}
use Rattle.std.specs.List.{AllZip, range_with_len}
use Rattle.std.specs.List.Sorted.{IsStrictlySortedBy}
use Rattle.std.specs.Ordering.{nat_cmp}
use Rattle.std.proofs.lemmas.Cmp.{nat_cmp_total}
use native.Mathlib.Decide.{ℕ_discrete, dec_lt}
use Rattle.cqa_value.proofs.Words.{Contains-map, Contains-flat_map, Contains-range, dec_both}
use Rattle.cqa_model.specs.declared.query.RowId.{RowId}
use Rattle.cqa_model.specs.Database.{Table}
use Rattle.cqa_model.proofs.Classic.{dec_some}
use Rattle.cqa_model.proofs.Repairs.{dec_shares}
use Rattle.cqa_model.proofs.Values.{dec_by}
use Rattle.existence_law.proofs.Encoding.{variable_exact, all_numbers}
use Rattle.join_access.proofs.Sorted.{one_sorted}
use Rattle.join_witness.proofs.Sorting.{decided_list}
use Rattle.row_lists.specs.Clauses.{Variable, variable_cmp, HasNumber, AreAllLists, Formula}
use Rattle.row_lists.specs.Lists.{named, IsStored, IsOfBlock}
use Rattle.row_lists.specs.Formulas.{table_at, name_in, IsRelevantTo, AreVariables, HasNumberOf, IsBlockOf, IsBlock, AreNumbersOf, IsFormulaOf}
use Rattle.row_lists.specs.Spans.{at}
use Rattle.row_lists.proofs.Numbers.{passing, passing-has, passing-holds, passing-rises}
use Rattle.row_lists.proofs.Rows.{variable_total, dec_number, number_below}
use Rattle.row_lists.proofs.Words.{name_discrete}
use Rattle.cqa_model.proofs.Zips.{zip-choose}
use Rattle.table_blocks.specs.Tables.{rows_at, key_at}

dec_of_block : (db : List Table) (m n : RowId) → Dec (IsOfBlock db m n)
dec_of_block db m n = dec_both (ℕ_discrete m.table n.table) (dec_shares (key_at db m.table) (named db m) (named db n))

-- the numbers from 1 on, up to a number, that have what is decided
pub numbers_with : (P : ℕ → Type 0) → ((n : ℕ) → Dec (P n)) → (most : ℕ) → ((n : ℕ) → P n → (1 ≤ n) × (n < 1 + most)) → (numbers : List ℕ) × (IsStrictlySortedBy nat_cmp numbers × ((n : ℕ) → Contains numbers n ↔ P n))
numbers_with P d most within = (
  passing d 1 most,
  (
    passing-rises d 1 most,
    λ n. (λ m. (passing-holds d 1 most n m).0, λ p. let b = within n p in passing-has d 1 most n b.0 b.1 p),
  ),
)

module _ (db : List Table) (frame : List ℕ) (lists : List (List RowId)) where
  -- ---- the variables

  IsVariable : Variable → Type 0
  IsVariable x = (x.slot < length frame) × (IsStored db (name_in frame x) × IsRelevantTo db lists (name_in frame x))

  dec_relevant : (id : RowId) → Dec (IsRelevantTo db lists id)
  dec_relevant id = dec_by (λ h. (h.2.0, (h.0, h.1, h.2.1), h.2.2)) (λ h. (h.1.0, h.1.1, (h.0, h.1.2, h.2)))
      (dec_some (λ names. (n : RowId) × Contains names n × IsOfBlock db id n) (λ names. dec_some (λ n. IsOfBlock db id n) (λ n. dec_of_block db id n) names) lists)

  dec_variable : (x : Variable) → Dec (IsVariable x)
  unfolding IsVariable
  dec_variable x =
      let id = name_in frame x in
      dec_both (dec_lt x.slot (length frame)) (dec_both (dec_both (dec_lt id.table (length db)) (dec_lt id.place (length (rows_at db id.table)))) (dec_relevant id))

  abbrev stored_variables : List Variable
  stored_variables = flat_map (λ s. map (at s) (range_with_len 0 (length (rows_at db (table_at frame s))))) (range_with_len 0 (length frame))

  variable_stored : (x : Variable) → IsVariable x → Contains stored_variables x
  unfolding IsVariable
  variable_stored x h =
      let s = h.0 in
      let p = h.1.0.1 in
      Contains-flat_map (λ s. map (at s) (range_with_len 0 (length (rows_at db (table_at frame s))))) (range_with_len 0 (length frame)) x.slot x
      (Contains-range 0 (length frame) x.slot (omega arith) (omega (arith, s)))
      (Contains-map (at x.slot) (range_with_len 0 (length (rows_at db (table_at frame x.slot)))) x.place (Contains-range 0 (length (rows_at db (table_at frame x.slot))) x.place (omega arith) (omega (arith, p))))

  variables : (xs : List Variable) × AreVariables db frame lists xs
  unfolding IsVariable
  variables =
      let l = decided_list variable_cmp variable_total IsVariable dec_variable (λ x y h k e. variable_exact x y e) stored_variables variable_stored in
      (l.0, record { in_order = l.1.0; exactly = l.1.1 })

  module _ (xs : List Variable) where
    -- ---- the numbers of blocks

    one_block : (x : Variable) (a b : List ℕ) → IsBlockOf db frame xs x a → IsBlockOf db frame xs x b → a ≡ b
    one_block x a b h k = one_sorted nat_cmp nat_cmp_total a b h.rises k.rises (λ n m. (k.exactly n).1 ((h.exactly n).0 m)) (λ n m. (h.exactly n).1 ((k.exactly n).0 m))

    block_of : (x : Variable) → (numbers : List ℕ) × IsBlockOf db frame xs x numbers
    block_of x =
        let n = numbers_with (λ n. (y : Variable) × HasNumber xs n y × IsOfBlock db (name_in frame x) (name_in frame y))
        (λ n. dec_number xs (λ y. IsOfBlock db (name_in frame x) (name_in frame y)) (λ y. dec_of_block db (name_in frame x) (name_in frame y)) n)
        (length xs) (λ n p. number_below xs n p.0 p.1) in
        (n.0, record { rises = n.1.0; exactly = n.1.1 })

    block_lists : (blocks : List (List ℕ)) × AreAllLists (IsBlock db frame xs) blocks
    block_lists = all_numbers (IsBlockOf db frame xs) one_block block_of xs

    -- ---- the numbers of the lists

    dec_number_of : (id : RowId) (n : ℕ) → Dec (HasNumberOf frame xs id n)
    dec_number_of id n = dec_number xs (λ y. name_in frame y ≡ id) (λ y. name_discrete (name_in frame y) id) n

    list_numbers : (names : List RowId) → (numbers : List ℕ) × AreNumbersOf frame xs names numbers
    list_numbers names =
        let n = numbers_with (λ n. (id : RowId) × Contains names id × HasNumberOf frame xs id n) (λ n. dec_some (λ id. HasNumberOf frame xs id n) (λ id. dec_number_of id n) names)
        (length xs) (λ n p. number_below xs n p.2.0 p.2.1) in
        (n.0, record { rises = n.1.0; exactly = n.1.1 })

    list_clauses : (numbers : List (List ℕ)) × AllZip (AreNumbersOf frame xs) lists numbers
    list_clauses = zip-choose (AreNumbersOf frame xs) lists (λ names m. list_numbers names)

  pub list_formula : (f : Formula) × IsFormulaOf db frame lists f
  list_formula = (
    record { variables = variables.0; blocks = (block_lists variables.0).0; witnesses = (list_clauses variables.0).0 },
    record { variables = variables.1; blocks = (block_lists variables.0).1; witnesses = (list_clauses variables.0).1 },
  )
