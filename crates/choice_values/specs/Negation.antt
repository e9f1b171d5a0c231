-- Lists with the negatives of their weights.
use Rattle.std.specs.Prelude.{List, [], ◌∷◌, neg_ℤ}
use Rattle.choice_values.specs.Values.{Weighted}

-- the negative of each weight
abbrev pub negated : List Weighted → List Weighted
negated [] = []
negated (l ∷ lists) = record { weight = neg_ℤ l.weight; names = l.names } ∷ negated lists
