-- The columns of variables that both atoms have.
use Rattle.std.specs.Prelude.{◌≡◌, ℕ, ◌<◌, ◌⊎◌, List, map, Contains}
use Rattle.cqa_model.specs.declared.query.Query.{Query}
use Rattle.cqa_model.specs.Query.{atom_at}
use Rattle.cqa_model.specs.Variables.{AreLinked}
use Rattle.pair_answers.specs.declared.shared.Shared.{Shared}

abbrev pub pairs_of : List Shared → List (ℕ × ℕ)
pairs_of cols = map (λ s. (s.left, s.right)) cols

-- of columns before i, and of column i those before j: the linked pairs
pub record AreSharedSoFar (q : Query) (cols : List Shared) (i j : ℕ) : Type 0 where
  pub linked : (s : Shared) → Contains cols s → (s.left < (atom_at q 0).width) × (s.right < (atom_at q 1).width) × AreLinked q (record { atom = 0; col = s.left }) (record { atom = 1; col = s.right })
  pub all : (a b : ℕ) → a < (atom_at q 0).width → b < (atom_at q 1).width → AreLinked q (record { atom = 0; col = a }) (record { atom = 1; col = b }) → (a < i) ⊎ ((a ≡ i) × (b < j)) → Contains cols (record { left = a; right = b })
