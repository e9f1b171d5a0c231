-- Places that add least, or most, of each block add up to the least, or the greatest, sum.
use Rattle.std.proofs.Common.{ℕ, List, [], ◌∷◌, arith}
use Rattle.std.specs.Prelude.{ℤ, ◌≤ℤ◌}
use Rattle.std.specs.List.{AllZip}
use Rattle.std.proofs.lemmas.Int.{ints}
use Rattle.range_join.specs.declared.spans.Span.{Span}
use Rattle.range_join.specs.Firsts.{StandsIn}
use Rattle.range_join.specs.Bounds.{IsLeastOf, IsMostOf}
use Rattle.range_join.specs.Worths.{sum_of}
use Rattle.range_ask.proofs.Totals.{sum-mono}

module _ (w : ℕ → ℤ) where
  pub lowest : (spans : List Span) (xs ys : List ℕ) → AllZip (IsLeastOf w) spans xs → AllZip StandsIn spans ys → sum_of w xs ≤ℤ sum_of w ys
  lowest [] [] [] h p = omega (arith, ints)
  lowest [] [] (y ∷ ys) h p = absurd p
  lowest [] (x ∷ xs) ys h p = absurd h
  lowest (s ∷ spans) [] ys h p = absurd h
  lowest (s ∷ spans) (x ∷ xs) [] h p = absurd p
  lowest (s ∷ spans) (x ∷ xs) (y ∷ ys) h p = sum-mono (w x) (w y) (sum_of w xs) (sum_of w ys) (h.0.least y p.0) (lowest spans xs ys h.1 p.1)

  pub highest : (spans : List Span) (xs ys : List ℕ) → AllZip (IsMostOf w) spans xs → AllZip StandsIn spans ys → sum_of w ys ≤ℤ sum_of w xs
  highest [] [] [] h p = omega (arith, ints)
  highest [] [] (y ∷ ys) h p = absurd p
  highest [] (x ∷ xs) ys h p = absurd h
  highest (s ∷ spans) [] ys h p = absurd h
  highest (s ∷ spans) (x ∷ xs) [] h p = absurd p
  highest (s ∷ spans) (x ∷ xs) (y ∷ ys) h p = sum-mono (w y) (w x) (sum_of w ys) (sum_of w xs) (h.0.most y p.0) (highest spans xs ys h.1 p.1)
