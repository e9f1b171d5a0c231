-- Rows that are put among others.
use Rattle.std.specs.Prelude.{ℕ, List, [], ◌∷◌, ◌++◌, ◌≤◌, take, drop}

-- a list with an item put in before the one that stands at a place
abbrev pub with_item : {A : Type 0} → ℕ → A → List A → List A
with_item at item items = take at items ++ item ∷ drop at items

-- a list with items put in, each before the one that stands at its place among the old ones: the last first, so that the
-- places before it stay right
abbrev pub with_items : {A : Type 0} → List A → List A → List ℕ → List A
with_items items [] places = items
with_items items (item ∷ more) [] = items
with_items items (item ∷ more) (at ∷ places) = with_item at item (with_items items more places)

-- places that go up, from one on and up to another
abbrev pub AreRising : ℕ → ℕ → List ℕ → Type 0
AreRising from to [] = from ≤ to
AreRising from to (at ∷ places) = from ≤ at × AreRising at to places
