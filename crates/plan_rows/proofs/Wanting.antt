-- The first of ascending places that is not below another.
use Rattle.std.proofs.Common.{◌≡◌, ℕ, ◌<◌, ◌≤◌, inl, inr, true, false, List, length, get_or, ◌∙◌, subst, arith, Contains}
use Rattle.std.specs.Ordering.{nat_cmp}
use Rattle.std.specs.List.Sorted.{IsStrictlySortedBy, IsPartitionPoint}
use Rattle.std.proofs.Math.Dec.{ltb}
use Rattle.std.proofs.lemmas.Bool.{cases_lt, ltb-true, ltb-false}
use Rattle.std.proofs.lemmas.List.{get_or_default}
use Rattle.std.proofs.lemmas.Map.Keys.{non_decreasing_from_sorted}

module _ (places : List ℕ) (from at : ℕ) (order : IsStrictlySortedBy nat_cmp places) (point : IsPartitionPoint (λ y. ltb y from ≡ true) (λ y. ltb y from ≡ false) places at) where
  pub from-low : at < length places → from ≤ get_or places at 0
  from-low l = ltb-false (get_or places at 0) from (point.1 at 0 (omega arith) l)

  -- a listed place that is not below it is no lower than what was found
  pub listed-high : (i : ℕ) → from ≤ i → Contains places i → (at < length places) × (get_or places at 0 ≤ i)
  listed-high i low (j, l, e) = elim (cases_lt j at) [
    | inl less ↦ (let b : get_or places j i < from = ltb-true (get_or places j i) from (point.0 j i (omega arith) less) in absurd (omega (arith, b, low, e)))
    | inr high ↦ (let there : at < length places = omega (arith, high, l) in (there, subst (λ n. get_or places at 0 ≤ n) (get_or_default places j 0 i l ∙ e) (non_decreasing_from_sorted places order at j 0 high l)))
  ]
