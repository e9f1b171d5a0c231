-- What a binary search for a row answers among rows that ascend.
use Rattle.std.proofs.Common.{◌≡◌, ◌↔◌, ◌∙◌, ℕ, ◌+◌, inl, inr, List, [], length, get_or, refl, ap, subst, arith, false, Contains, Greater, Less, Result, Ok, Err}
use Rattle.std.specs.Prelude.{IsTrue}
use Rattle.std.specs.Result.{is_ok}
use Rattle.std.specs.List.Sorted.{IsBinarySearchResult, IsNonDecreasingBy, IsPartitionPoint, IsSearchInRange, IsSorted, IsStrictlySortedBy}
use Rattle.std.specs.Ordering.{is_lt, ordering_index, ordering_reverse}
use Rattle.std.proofs.lemmas.List.Elements.{Contains-get_or}
use Rattle.std.proofs.lemmas.List.Sorted.{searchable_from_sorted}
use Rattle.std.proofs.lemmas.Map.Keys.{Less-from_sorted}
use Rattle.cqa_value.specs.declared.value.Value.{Value}
use Rattle.cqa_value.specs.Values.{row_cmp, row_cmp_total}
use Rattle.cqa_value.proofs.Words.{cases_le, clash, member_place, not_less}
use Rattle.cqa_model.proofs.BlockOrder.{row_exact}

-- a row isn't greater than itself
not_greater : (row : List Value) → row_cmp row row ≡ Greater → ⊥
not_greater row e = not_less row_cmp row_cmp_total row (row_cmp_total.antisymm row row ∙ ap ordering_reverse e)

module _ (rows : List (List Value)) (ascends : IsStrictlySortedBy row_cmp rows) (row : List Value) where
  sorted : IsSorted row_cmp rows
  sorted k d low l =
      ap is_lt (row_cmp_total.antisymm (get_or rows (k + 1) d) (get_or rows k d) ∙ ap ordering_reverse (Less-from_sorted row_cmp rows k (k + 1) d ascends (omega arith) l))

  rising : IsNonDecreasingBy (λ y. ordering_index (row_cmp y row)) rows
  rising = searchable_from_sorted row_cmp_total (λ (y : List Value). y) rows row sorted

  absent : (i : ℕ) → IsPartitionPoint (λ y. row_cmp y row ≡ Less) (λ y. row_cmp y row ≡ Greater) rows i → Contains rows row → ⊥
  absent i parted m =
      let p = member_place rows row [] m in
      elim (cases_le i p.0) [
        | inl l ↦ not_greater row (subst (λ x. row_cmp x row ≡ Greater) p.2 (parted.1 p.0 [] l p.1))
        | inr l ↦ not_less row_cmp row_cmp_total row (subst (λ x. row_cmp x row ≡ Less) p.2 (parted.0 p.0 [] (omega arith) l))
      ]

  pub found_row : (r : Result ℕ ℕ) → IsSearchInRange r (length rows) → IsBinarySearchResult (λ y. row_cmp y row) rows r → IsTrue (is_ok r) ↔ Contains rows row
  found_row (Ok i) l h = (λ t. subst (Contains rows) (row_exact (get_or rows i []) row (h [])) (Contains-get_or rows i [] l), λ m. refl)
  found_row (Err i) l h = (λ t. absurd (clash false t refl), λ m. absurd (absent i (h rising) m))
