-- The ranks of lists are buckets of rows.
use Rattle.std.proofs.Common.{◌≡◌, ℕ, ◌<◌, ◌≤◌, ◌⊎◌, inl, inr, List, length, get_or, sym, ◌∙◌, ap, subst, arith, None, Bool, true, false, true≢false, Contains}
use Rattle.std.specs.Cmp.{IsTotalOrder, IsStrictWeakOrder}
use Rattle.std.specs.Cmp.Lexicographic.{options_total}
use Rattle.std.specs.List.Sorted.{IsPartitionedBy, IsPermutation, IsSortedBy}
use Rattle.std.specs.Ordering.{is_lt, nat_cmp}
use Rattle.std.specs.Option.{option_cmp}
use Rattle.std.proofs.lemmas.Bool.{cases_Bool, cases_lt}
use Rattle.std.proofs.lemmas.Cmp.{on_total, nat_cmp_total, tied_itself}
use Rattle.std.proofs.lemmas.List.Sorted.{Contains-permutation, length_permutation, ranks_by, sorted_far}
use Rattle.std.proofs.lemmas.List.Elements.{Contains-get_or}
use Rattle.cqa_value.specs.Values.{row_cmp, row_cmp_total}
use Rattle.weak_pairs.specs.declared.lists.ListForm.{ListForm}
use Rattle.weak_pairs.specs.declared.lists.ListForm.TheVariants.{Packed, Borrowed}
use Rattle.weak_pairs.specs.Digests.{lists_in}
use Rattle.weak_pairs.specs.EdgeNumbers.{AreBuckets, HaveOne}
use Rattle.weak_pairs.specs.Ranks.{AreInOrder, IsRank, list_cmp}
use Rattle.weak_pairs.proofs.Coding.{long, same-code}

list_total : (lists : ListForm) → IsTotalOrder (list_cmp lists)
list_total (Packed codes) = on_total (λ i. get_or codes.items i 0) nat_cmp_total
list_total (Borrowed lists) = on_total (λ i. get_or lists.items i None) (options_total row_cmp_total)

pub list_ranks : (lists : ListForm) → IsStrictWeakOrder (λ i j. is_lt (list_cmp lists i j))
list_ranks lists = ranks_by (list_total lists) (λ i. i)

-- rows with one list compare alike
alike : (lists : ListForm) (i j : ℕ) → HaveOne (lists_in lists) i j → (p : ℕ) → list_cmp lists p i ≡ list_cmp lists p j
alike (Packed codes) i j h p = ap (nat_cmp (get_or codes.items p 0)) (same-code codes.items i j h)
alike (Borrowed lists) i j (x, xi, xj) p = ap (option_cmp row_cmp (get_or lists.items p None)) (xi ∙ sym xj)

module _ (lists : ListForm) (order : List ℕ) where
  abbrev lt : ℕ → ℕ → Bool
  lt i j = is_lt (list_cmp lists i j)

  -- rows with lesser lists come first
  pub parted : AreInOrder lists order → (at : ℕ) → IsPartitionedBy (λ i. lt i at) order
  parted o at i j d l k less = go (cases_Bool (lt (get_or order i d) at))
    where
      go : (lt (get_or order i d) at ≡ true) ⊎ (lt (get_or order i d) at ≡ false) → lt (get_or order i d) at ≡ true
      go (inl t) = t
      go (inr f) = absurd (true≢false (sym less ∙ (list_ranks lists).chain (get_or order j d) (get_or order i d) at (sorted_far lt (list_ranks lists) order o.sorted i j d l k) f))

  -- a row's own list is none of the lesser ones
  pub rank-below : AreInOrder lists order → (at rank : ℕ) → at < length (lists_in lists) → IsRank lists order at rank → rank < length (lists_in lists)
  rank-below o at rank l is = let a = o.all at l in go a (cases_lt a.0 rank)
    where
      go : (a : Contains order at) → (a.0 < rank) ⊎ (rank ≤ a.0) → rank < length (lists_in lists)
      go (k, lk, e) (inl low) = absurd (true≢false (sym (is.0 k at (omega arith) low) ∙ ap (λ z. lt z at) e ∙ ap is_lt (tied_itself (list_total lists) at)))
      go (k, lk, e) (inr high) = let s = o.size in omega (arith, lk, high, s)

  not-below : (i j r s : ℕ) → HaveOne (lists_in lists) i j → IsRank lists order i r → IsRank lists order j s → r ≤ length order → s ≤ length order → r < s → ⊥
  not-below i j r s h a b lr ls l = true≢false (sym (b.0 r 0 (omega arith) l) ∙ ap is_lt (sym (alike lists i j h (get_or order r 0))) ∙ a.1 r 0 (omega arith) (omega (arith, l, ls)))

-- places that were sorted are in order
pub ordered : (lists : ListForm) (places order : List ℕ) → length places ≡ length (lists_in lists) → ((i : ℕ) → i < length (lists_in lists) → get_or places i 0 ≡ i) →
    IsPermutation places order → IsSortedBy (λ i j. is_lt (list_cmp lists i j)) order → AreInOrder lists order
ordered lists places order size each same sorted = record {
  sorted = sorted;
  all = λ i l. Contains-permutation places order i same (subst (Contains places) (each i l) (Contains-get_or places i 0 (subst (λ n. i < n) (sym size) l)));
  size = length_permutation places order same ∙ size;
}

module _ (lists : ListForm) (order ranks : List ℕ) (size : length ranks ≡ length (lists_in lists)) (o : AreInOrder lists order)
    (are : (i : ℕ) → i < length (lists_in lists) → HaveOne (lists_in lists) i i → IsRank lists order i (get_or ranks i 0) × (get_or ranks i 0 < length (lists_in lists))) where
  pub by-order : AreBuckets (lists_in lists) ranks
  by-order = record {
    size = size;
    one = λ i j h. one i j h (its i (h.0, h.1, h.1)) (its j (h.0, h.2, h.2));
    some = λ i h. (its i h).1;
  }
    where
      its : (i : ℕ) → HaveOne (lists_in lists) i i → IsRank lists order i (get_or ranks i 0) × (get_or ranks i 0 < length (lists_in lists))
      its i h = are i (long (lists_in lists) i h.0 h.1) h

      one : (i j : ℕ) → HaveOne (lists_in lists) i j → IsRank lists order i (get_or ranks i 0) × (get_or ranks i 0 < length (lists_in lists)) →
          IsRank lists order j (get_or ranks j 0) × (get_or ranks j 0 < length (lists_in lists)) → get_or ranks i 0 ≡ get_or ranks j 0
      one i j h (a, la) (b, lb) =
          let z = o.size in
          let up = not-below lists order i j (get_or ranks i 0) (get_or ranks j 0) h a b (omega (arith, la, z)) (omega (arith, lb, z)) in
          let down = not-below lists order j i (get_or ranks j 0) (get_or ranks i 0) (h.0, h.2, h.1) b a (omega (arith, lb, z)) (omega (arith, la, z)) in
          omega (arith, up, down)
