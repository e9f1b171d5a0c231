-- Items of a stretch that stay.
use Rattle.std.specs.Prelude.{ℕ, ◌-◌, Bool, List, ◌++◌, filter, take, drop}

-- a list without the items from one place up to another that fail a test
abbrev pub retained : {A : Type 0} → (A → Bool) → ℕ → ℕ → List A → List A
retained p from to items = (take from items ++ filter p (take (to - from) (drop from items))) ++ drop to items
