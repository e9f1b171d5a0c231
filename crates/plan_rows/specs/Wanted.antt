-- By what rows of a table are looked for.
use Rattle.std.specs.Prelude.{◌≡◌, ℕ, ◌<◌, ◌≤◌, [], length, slice_index_or, Contains}
use Rattle.std.specs.Ordering.{nat_cmp}
use Rattle.std.specs.List.Sorted.{IsStrictlySortedBy}
use Rattle.std.proofs.Props.{props}
use Rattle.std.proofs.lemmas.Map.Keys.{IsStrictlySortedBy-prop}
use Rattle.cqa_model.specs.Database.{key_of}
use Rattle.plan_rows.specs.declared.wanted.Wanted.{Wanted}
use Rattle.plan_rows.specs.declared.wanted.Wanted.TheVariants.{All, Indexed, Listed}

-- the row at a place is looked for
abbrev pub IsWanted : Wanted → ℕ → Type 0
IsWanted All i = Unit {0}
IsWanted (Indexed index values) i = key_of index.now.columns (slice_index_or index.now.rows i []) ≡ values
IsWanted (Listed places) i = Contains places.items i

-- no row from one place on, up to another, is
abbrev pub NoneWanted : Wanted → ℕ → ℕ → Type 0
NoneWanted w from to = (i : ℕ) → from ≤ i → i < to → IsWanted w i → ⊥

-- an index has so many rows, and listed places are in order
abbrev pub IsOfSize : Wanted → ℕ → Type 0
IsOfSize All size = Unit {0}
IsOfSize (Indexed index values) size = length index.now.rows ≡ size
IsOfSize (Listed places) size = IsStrictlySortedBy nat_cmp places.items

-- so it is in one way at most
pub size_once : (w : Wanted) (size : ℕ) → IsProp (IsOfSize w size)
size_once All size = hlevel props
size_once (Indexed index values) size = hlevel props
size_once (Listed places) size = IsStrictlySortedBy-prop nat_cmp places.items
