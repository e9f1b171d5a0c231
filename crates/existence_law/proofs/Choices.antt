-- All lists of one item of each of some lists.
use Rattle.std.proofs.Common.{◌≡◌, ℕ, zero, suc, ◌<◌, List, [], ◌∷◌, length, get_or, map, flat_map, arith, Contains}
use Rattle.cqa_value.proofs.Words.{mem-head, Contains-map, Contains-flat_map}

abbrev pub choices : {A : Type 0} → ℕ → (ℕ → List A) → List (List A)
choices zero lists = [] ∷ []
choices (suc n) lists = flat_map (λ x. map (λ xs. x ∷ xs) (choices n (λ i. lists (suc i)))) (lists 0)

pub choices-all : {A : Type 0} (d : A) (n : ℕ) (lists : ℕ → List A) (xs : List A) → length xs ≡ n → ((i : ℕ) → i < n → Contains (lists i) (get_or xs i d)) → Contains (choices n lists) xs
choices-all d zero lists [] long h = mem-head [] []
choices-all d zero lists (x ∷ xs) long h = absurd (omega (arith, long))
choices-all d (suc n) lists [] long h = absurd (omega (arith, long))
choices-all d (suc n) lists (x ∷ xs) long h =
    Contains-flat_map (λ y. map (λ ys. y ∷ ys) (choices n (λ i. lists (suc i)))) (lists 0) x (x ∷ xs) (h 0 (omega arith))
    (Contains-map (λ ys. x ∷ ys) (choices n (λ i. lists (suc i))) xs (choices-all d n (λ i. lists (suc i)) xs (omega (arith, long)) (λ i l. h (suc i) (omega (arith, l)))))
