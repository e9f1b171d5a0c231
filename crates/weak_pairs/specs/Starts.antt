-- Blocks one after the other: where each begins.
use Rattle.std.specs.Prelude.{ℕ, ◌+◌, List, [], ◌∷◌, length}

-- where each block ends, where the first begins at a number
abbrev pub ends_from : {A : Type 0} → ℕ → List (List A) → List ℕ
ends_from n [] = []
ends_from n (b ∷ bs) = (n + length b) ∷ ends_from (n + length b) bs

-- where each begins, and at last where the last one ends
abbrev pub starts_from : {A : Type 0} → ℕ → List (List A) → List ℕ
starts_from n bs = n ∷ ends_from n bs
