-- The members of sets of classes and of atoms.
use Rattle.std.specs.Prelude.{◌≡◌, ℕ, true, false, slice_index_or}
use Rattle.std.specs.List.{count_by}
use Rattle.key_closure.specs.declared.variable_set.VarSet.{VarSet}
use Rattle.key_closure.specs.declared.atom_set.AtomSet.{AtomSet}

-- the class k is in the set
abbrev pub Has : VarSet → ℕ → Type 0
Has s k = slice_index_or s.bits k false ≡ true

-- the atom k is in the set
abbrev pub HasAtom : AtomSet → ℕ → Type 0
HasAtom s k = slice_index_or s.bits k false ≡ true

-- the number of atoms in a set
abbrev pub size : AtomSet → ℕ
size s = count_by (λ b. b) s.bits
