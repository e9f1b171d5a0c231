-- Where the shorter of two lists of columns has ended, their lengths decide.
use Rattle.std.proofs.Common.{◌≡◌, ℕ, ◌+◌, ◌≤◌, ◌⊎◌, inl, inr, List, [], ◌∷◌, length, drop, length-drop, sym, arith, Equal, Less, Greater}
use Rattle.std.specs.Ordering.{nat_cmp}
use Rattle.std.specs.Cmp.{nat_cmp_is}
use Rattle.cqa_value.specs.declared.value.Value.{Value}
use Rattle.cqa_value.specs.Values.{row_cmp, key_of}

module _ (a b : List Value) where
  -- xs and ys are what is left of lists of p and q columns behind the first n
  rest : (xs ys : List ℕ) (p q n : ℕ) → p ≡ length xs + n → q ≡ length ys + n → (length xs ≡ 0) ⊎ (length ys ≡ 0) → nat_cmp p q ≡ row_cmp (key_of xs a) (key_of ys b)
  rest [] [] p q n l r e = sym (nat_cmp_is p q Equal (omega (arith, l, r)))
  rest [] (y ∷ ys) p q n l r e = sym (nat_cmp_is p q Less (omega (arith, l, r)))
  rest (x ∷ xs) [] p q n l r e = sym (nat_cmp_is p q Greater (omega (arith, l, r)))
  rest (x ∷ xs) (y ∷ ys) p q n l r (inl e) = absurd (omega (arith, e))
  rest (x ∷ xs) (y ∷ ys) p q n l r (inr e) = absurd (omega (arith, e))

  pub ended : (left right : List ℕ) (n : ℕ) → n ≤ length left → n ≤ length right → (length left ≤ n) ⊎ (length right ≤ n) →
      nat_cmp (length left) (length right) ≡ row_cmp (key_of (drop n left) a) (key_of (drop n right) b)
  ended left right n l r e =
      let m = length-drop n left in
      let k = length-drop n right in
      rest (drop n left) (drop n right) (length left) (length right) n (omega (arith, m, l)) (omega (arith, k, r)) (elim e [ inl z ↦ inl (omega (arith, m, z)) | inr z ↦ inr (omega (arith, k, z)) ])
