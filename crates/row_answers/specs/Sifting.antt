-- Rows that are sifted, one after the other.
use Rattle.std.specs.Prelude.{◌≡◌, ◌⊎◌, ◌++◌, List, [], ◌∷◌}
use Rattle.cqa_value.specs.declared.value.Value.{Value}

-- a row is put behind others exactly where it is one of those that are kept
abbrev pub Sifts : (List Value → Type 0) → List Value → List (List Value) → List (List Value) → Type 0
Sifts Kept row old new = (Kept row × (new ≡ old ++ row ∷ [])) ⊎ ((Kept row → ⊥) × (new ≡ old))

-- of these rows the kept ones are left, in their order
abbrev pub AreSifted : (List Value → Type 0) → List (List Value) → List (List Value) → Type 0
AreSifted Kept [] left = left ≡ []
AreSifted Kept (row ∷ rows) left =
    (Kept row × ((later : List (List Value)) × (left ≡ row ∷ later) × AreSifted Kept rows later)) ⊎ ((Kept row → ⊥) × AreSifted Kept rows left)
