-- Pairs of atoms, as a list of sets.
use Rattle.std.specs.Prelude.{ℕ, List, [], slice_index_or}
use Rattle.key_closure.specs.declared.atom_set.AtomSet.{AtomSet}
use Rattle.key_closure.specs.Sets.{HasAtom}

-- G is in the set at the place F
abbrev pub HasPair : List AtomSet → ℕ → ℕ → Type 0
HasPair sets F G = HasAtom (slice_index_or sets F (record { bits = [] })) G
