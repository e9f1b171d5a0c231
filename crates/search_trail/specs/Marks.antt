-- Marks of variables.
use Rattle.std.specs.Prelude.{◌≡◌, ℕ, Bool, true, false, List, slice_index_or, Contains}

abbrev pub IsVarSeen : List Bool → ℕ → Type 0
IsVarSeen seen v = slice_index_or seen v false ≡ true

-- no variable is marked
abbrev pub AllClear : List Bool → Type 0
AllClear seen = (v : ℕ) → IsVarSeen seen v → ⊥

-- the list has each variable that is marked
abbrev pub AllMet : List Bool → List ℕ → Type 0
AllMet seen met = (v : ℕ) → IsVarSeen seen v → Contains met v
