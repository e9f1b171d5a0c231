-- Items of a list that is mapped, by their places, and the places that are true.
use Rattle.std.proofs.Common.{◌≡◌, ℕ, zero, suc, Bool, true, false, Some, None, List, [], ◌∷◌, get_or, slice_get, map, refl, ap}

module _ {A B : Type 0} (g : A → B) where
  pub get-map : (xs : List A) (k : ℕ) (x : A) → slice_get xs k ≡ Some x → slice_get (map g xs) k ≡ Some (g x)
  get-map [] k x e = (cc)
  get-map (y ∷ xs) zero x e = let same : y ≡ x = cc in ap (λ z. Some (g z)) same
  get-map (y ∷ xs) (suc k) x e = get-map xs k x e

  pub of-map : (xs : List A) (k : ℕ) (y : B) → slice_get (map g xs) k ≡ Some y → (x : A) × (slice_get xs k ≡ Some x) × (g x ≡ y)
  of-map [] k y e = absurd (none y e)
    where
      none : (y : B) → None ≡ Some y → ⊥
      none y e = (cc)
  of-map (x ∷ xs) zero y e = (x, refl, cc)
  of-map (x ∷ xs) (suc k) y e = of-map xs k y e

pub true-there : (bs : List Bool) (k : ℕ) → get_or bs k false ≡ true → slice_get bs k ≡ Some true
true-there [] k e = (cc)
true-there (b ∷ bs) zero e = ap Some e
true-there (b ∷ bs) (suc k) e = true-there bs k e
