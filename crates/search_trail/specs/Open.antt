-- Variables that have no value.
use Rattle.std.specs.Prelude.{◌≡◌, ◌<◌, ◌≤◌, ℕ, List, Option, Some, None, length, slice_index_or}

-- a variable has no place
abbrev pub IsUnplaced : List (Option ℕ) → ℕ → Type 0
IsUnplaced places v = (1 ≤ v) × (v < length places) × (slice_index_or places v None ≡ None)

-- one that has none, unless each has one
abbrev pub NextIs : List (Option ℕ) → Option ℕ → Type 0
NextIs places None = (v : ℕ) → 1 ≤ v → v < length places → (p : ℕ) × (slice_index_or places v None ≡ Some p)
NextIs places (Some v) = IsUnplaced places v
