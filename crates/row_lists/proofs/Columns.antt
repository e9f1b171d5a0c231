-- Places of rows that rise.
use Rattle.std.proofs.Common.{ℕ, ◌<◌, ◌≤◌, ◌≡◌, inl, inr, List, length, get_or, subst, arith}
use Rattle.std.proofs.lemmas.Bool.{cases_lt}
use Rattle.cqa_value.specs.declared.value.Value.{Value}
use Rattle.row_lists.specs.Runs.{AreRowPlaces}

-- a later place is not before an earlier one
pub places-up : (rows : List (List Value)) (places : List ℕ) → AreRowPlaces rows places → (i j : ℕ) → i ≤ j → j < length places → get_or places i 0 ≤ get_or places j 0
places-up rows places h i j le l = elim (cases_lt i j) [
  | inl lt ↦ let u = h.in_order i j lt l in omega (arith, u)
  | inr ge ↦ let e : i ≡ j = omega (arith, le, ge) in subst (λ k. get_or places i 0 ≤ get_or places k 0) e (omega arith)
]
