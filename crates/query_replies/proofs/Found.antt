-- What isn't found.
use Rattle.std.proofs.Common.{◌≡◌, Option, Some, None, IsNone, refl}

-- at the exit of a `let .. else`
pub none_found : {T : Type 0} (found : Option T) → ((x : T) → found ≡ Some x → ⊥) → IsNone found
none_found None h = refl
none_found (Some x) h = absurd (h x refl)
