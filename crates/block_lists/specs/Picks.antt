-- The first true row of each block, where the rows have truth values block after block.
use Rattle.std.specs.Prelude.{ℕ, suc, Bool, cond, List, [], ◌∷◌, take, drop}

-- how many values stand before the first true one
abbrev pub first_true : List Bool → ℕ
first_true [] = 0
first_true (b ∷ values) = cond b 0 (suc (first_true values))

-- that of each block
abbrev pub first_trues : List ℕ → List Bool → List ℕ
first_trues [] values = []
first_trues (s ∷ sizes) values = first_true (take s values) ∷ first_trues sizes (drop s values)
