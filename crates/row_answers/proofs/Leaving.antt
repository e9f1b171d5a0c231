-- Of rows that ascend those are left out that are among others, which ascend as well: one more.
use Rattle.std.proofs.Common.{◌≡◌, ◌∙◌, ℕ, ◌+◌, inl, inr, List, [], ◌∷◌, ◌++◌, length, get_or, take, drop, sym, ap, subst, Contains, Some, slice_get, Less, take-append-drop}
use Rattle.std.specs.List.Sorted.{IsStrictlySortedBy}
use Rattle.std.proofs.lemmas.List.{take_more, drop_more, drop_all}
use Rattle.std.proofs.lemmas.List.Elements.{Contains-append_right, Contains-append_cases, Contains-push_cases}
use Rattle.std.proofs.lemmas.Option.{slice_get_within, slice_get-get_or, get_or_from_slice_get}
use Rattle.cqa_value.specs.declared.value.Value.{Value}
use Rattle.cqa_value.specs.Values.{row_cmp, row_cmp_total}
use Rattle.cqa_value.proofs.Words.{member_by_recursion, cases_le, mem-head, mem-tail, mem-nil, mem-cases, not_less}
use Rattle.std.specs.Ordering.{ordering_reverse}
use Rattle.std.proofs.Common.{Greater}
use Rattle.row_answers.proofs.Sieving.{sorted-behind}

not-both : (x y : List Value) → row_cmp x y ≡ Less → row_cmp y x ≡ Less → ⊥
not-both x y l m =
    let e : row_cmp y x ≡ ordering_reverse (row_cmp x y) = row_cmp_total.antisymm y x in
    let r : ordering_reverse (row_cmp x y) ≡ Greater = ap ordering_reverse l in
    let clash : Less ≡ Greater = sym m ∙ e ∙ r in
    cc clash

behind : (row x : List Value) (later : List (List Value)) → IsStrictlySortedBy row_cmp (row ∷ later) → Contains later x → row_cmp row x ≡ Less
unfolding IsStrictlySortedBy
behind row x later s m = member_by_recursion (λ z. row_cmp row z ≡ Less) later s.0 x m

module _ (others : List (List Value)) (at : ℕ) (sorted : IsStrictlySortedBy row_cmp others) where
  rest-sorted : IsStrictlySortedBy row_cmp (drop at others)
  rest-sorted = sorted-behind (take at others) (drop at others) (subst (IsStrictlySortedBy row_cmp) (sym (take-append-drop at others)) sorted)

  split : (row : List Value) → slice_get others at ≡ Some row → drop at others ≡ row ∷ drop (at + 1) others
  split row e = drop_more others at row (slice_get_within others at row e) ∙ ap (λ z. z ∷ drop (at + 1) others) (get_or_from_slice_get others at row row e)

  module _ (row : List Value) (later : List (List Value)) (ascends : IsStrictlySortedBy row_cmp (row ∷ later))
      (to_come : (x : List Value) → Contains (drop at others) x → Contains (row ∷ later) x) (met : (x : List Value) → Contains (take at others) x → Contains (row ∷ later) x → ⊥) where
    not-later : Contains later row → ⊥
    not-later m = not_less row_cmp row_cmp_total row (behind row row later ascends m)

    -- the row is the next of the others
    module _ (is : slice_get others at ≡ Some row) where
      pub is-other : Contains others row
      is-other = subst (λ xs. Contains xs row) (take-append-drop at others) (Contains-append_right (take at others) (drop at others) row (subst (λ xs. Contains xs row) (sym (split row is)) (mem-head row (drop (at + 1) others))))

      pub to_come-then : (x : List Value) → Contains (drop (at + 1) others) x → Contains later x
      to_come-then x m = elim (mem-cases x row later (to_come x (subst (λ xs. Contains xs x) (sym (split row is)) (mem-tail x row (drop (at + 1) others) m)))) [
        | inl e ↦ absurd (not_less row_cmp row_cmp_total row (subst (λ z. row_cmp row z ≡ Less) (sym e) (behind row x (drop (at + 1) others) (subst (IsStrictlySortedBy row_cmp) (split row is) rest-sorted) m)))
        | inr n ↦ n
      ]

      pub met-then : (x : List Value) → Contains (take (at + 1) others) x → Contains later x → ⊥
      met-then x m n = elim (Contains-push_cases (take at others) row x (subst (λ xs. Contains xs x) (take_more others at row (slice_get_within others at row is) ∙ ap (λ z. take at others ++ z ∷ []) (get_or_from_slice_get others at row row is)) m)) [
        | inl k ↦ met x k (mem-tail x row later n)
        | inr e ↦ not-later (subst (λ z. Contains later z) (sym e) n)
      ]

    -- the row isn't the next of the others, so it is none of them
    module _ (isnt : slice_get others at ≡ Some row → ⊥) where
      not-next : (o : List Value) → slice_get others at ≡ Some o → Contains (drop at others) row → ⊥
      not-next o e m = elim (mem-cases row o (drop (at + 1) others) (subst (λ xs. Contains xs row) (split o e) m)) [
        | inl same ↦ isnt (subst (λ z. slice_get others at ≡ Some z) same e)
        | inr n ↦
            let less = behind o row (drop (at + 1) others) (subst (IsStrictlySortedBy row_cmp) (split o e) rest-sorted) n in
            elim (mem-cases o row later (to_come o (subst (λ xs. Contains xs o) (sym (split o e)) (mem-head o (drop (at + 1) others))))) [
              | inl same ↦ isnt (subst (λ z. slice_get others at ≡ Some z) (sym same) e)
              | inr k ↦ not-both o row less (behind row o later ascends k)
            ]
      ]

      pub isnt-other : Contains others row → ⊥
      isnt-other m = elim (Contains-append_cases (take at others) (drop at others) row (subst (λ xs. Contains xs row) (sym (take-append-drop at others)) m)) [
        | inl k ↦ met row k (mem-head row later)
        | inr k ↦ elim (cases_le (length others) at) [
          | inl past ↦ mem-nil row (subst (λ xs. Contains xs row) (drop_all at others past) k)
          | inr lt ↦ not-next (get_or others at row) (slice_get-get_or others at row lt) k
        ]
      ]

      pub to_come-else : (x : List Value) → Contains (drop at others) x → Contains later x
      to_come-else x m = elim (mem-cases x row later (to_come x m)) [
        | inl e ↦ absurd (isnt-other (subst (λ z. Contains others z) (sym e) (subst (λ xs. Contains xs x) (take-append-drop at others) (Contains-append_right (take at others) (drop at others) x m))))
        | inr n ↦ n
      ]

      pub met-else : (x : List Value) → Contains (take at others) x → Contains later x → ⊥
      met-else x m n = met x m (mem-tail x row later n)
