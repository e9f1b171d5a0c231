-- Lists of atoms that others are added to.
use Rattle.std.specs.Prelude.{◌≡◌, ℕ, List, ◌++◌, Contains}

-- a list goes on by some of these atoms
pub record GoesOn (atoms old new : List ℕ) : Type 0 where
  pub added : List ℕ
  pub is : new ≡ old ++ added
  pub among : (G : ℕ) → Contains added G → Contains atoms G
