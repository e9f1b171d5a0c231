-- The first of finitely many items under an order that tells any two of them.
use Rattle.std.proofs.Common.{◌⊎◌, inl, inr, List, [], ◌∷◌, Contains, subst}
use Rattle.cqa_value.proofs.Words.{mem-head, mem-tail, mem-nil, mem-cases}

module _ {A : Type 0} (L : A → A → Type 0) (self : (x : A) → L x x) (either : (x y : A) → L x y ⊎ L y x) (trans : (x y z : A) → L x y → L y z → L x z) where
  first_but : (x : A) (xs : List A) → (m : A) × (Contains (x ∷ xs) m × ((y : A) → Contains (x ∷ xs) y → L m y))
  first_but x [] = (x, (mem-head x [], λ y m. elim (mem-cases y x [] m) [ inl e ↦ subst (L x) e (self x) | inr n ↦ absurd (mem-nil y n) ]))
  first_but x (z ∷ xs) = go (first_but z xs)
    where
      go : (m : A) × (Contains (z ∷ xs) m × ((y : A) → Contains (z ∷ xs) y → L m y)) → (m : A) × (Contains (x ∷ z ∷ xs) m × ((y : A) → Contains (x ∷ z ∷ xs) y → L m y))
      go (m, (k, h)) = elim (either x m) [
        | inl l ↦ (x, (mem-head x (z ∷ xs), λ y n. elim (mem-cases y x (z ∷ xs) n) [ inl e ↦ subst (L x) e (self x) | inr r ↦ trans x m y l (h y r) ]))
        | inr l ↦ (m, (mem-tail m x (z ∷ xs) k, λ y n. elim (mem-cases y x (z ∷ xs) n) [ inl e ↦ subst (L m) e l | inr r ↦ h y r ]))
      ]

  pub first_among : (xs : List A) (x : A) → Contains xs x → (m : A) × (Contains xs m × ((y : A) → Contains xs y → L m y))
  first_among [] x k = absurd (mem-nil x k)
  first_among (y ∷ xs) x k = first_but y xs
