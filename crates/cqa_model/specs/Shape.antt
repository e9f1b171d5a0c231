-- What the types of schemas, queries and plans keep.
use Rattle.std.specs.Prelude.{◌≡◌, ℕ, ◌<◌, ◌≤◌, false, List, [], ◌∷◌, length, All, Contains, slice_index_or}
use Rattle.cqa_value.specs.declared.value.Kind.TheVariants.{Int}
use Rattle.cqa_value.specs.declared.row.TheConstants.{MOST_COLUMNS}
use Rattle.cqa_model.specs.declared.limits.TheConstants.{MOST_ATOMS, MOST_ANSWER_COLUMNS}
use Rattle.cqa_model.specs.declared.schema.Column.{Column}
use Rattle.cqa_model.specs.declared.query.Atom.{Atom}
use Rattle.cqa_model.specs.declared.query.ColRef.{ColRef}
use Rattle.cqa_model.specs.declared.query.Cond.{Cond}
use Rattle.cqa_model.specs.declared.query.Cond.TheVariants.{Join, Test}

-- no number stands at two places
abbrev pub AreDistinct : List ℕ → Type 0
AreDistinct xs = (i j : ℕ) → i < length xs → j < length xs → slice_index_or xs i 0 ≡ slice_index_or xs j 0 → i ≡ j

-- the column at a place
abbrev pub column_at : List Column → ℕ → Column
column_at columns i = slice_index_or columns i (record { name = []; kind = Int })

-- 1 to `MOST_COLUMNS` columns of different names, and a key of one or more different columns
pub record IsSchema (columns : List Column) (key : List ℕ) : Type 0 where
  pub size : (1 ≤ length columns) × (length columns ≤ MOST_COLUMNS)
  pub names_differ : (i j : ℕ) → i < length columns → j < length columns → (column_at columns i).name ≡ (column_at columns j).name → i ≡ j
  pub some_key : 1 ≤ length key
  pub key_in_range : All (λ p. p < length columns) key
  pub key_apart : AreDistinct key

-- the atom at a place
abbrev pub nth_atom : List Atom → ℕ → Atom
nth_atom atoms F = slice_index_or atoms F (record { table = 0; width = 0; key = []; strict = false })

-- the atom is there, and the column is one of its columns
abbrev pub IsInRange : List Atom → ColRef → Type 0
IsInRange atoms c = (c.atom < length atoms) × (c.col < (nth_atom atoms c.atom).width)

-- the columns that a condition speaks of
abbrev pub columns_of : Cond → List ColRef
columns_of (Join left right) = left ∷ right ∷ []
columns_of (Test col op value) = col ∷ []

-- 1 to `MOST_COLUMNS` columns, and a key of one or more different columns
pub record IsAtom (atom : Atom) : Type 0 where
  pub width : (1 ≤ atom.width) × (atom.width ≤ MOST_COLUMNS)
  pub some_key : 1 ≤ length atom.key
  pub key_in_range : All (λ p. p < atom.width) atom.key
  pub key_apart : AreDistinct atom.key

-- 1 to `MOST_ATOMS` atoms of different tables, at most `MOST_ANSWER_COLUMNS` answer columns, and every column in range
pub record IsQuery (atoms : List Atom) (conds : List Cond) (answer : List ColRef) : Type 0 where
  pub size : (1 ≤ length atoms) × (length atoms ≤ MOST_ATOMS)
  pub each : (F : ℕ) → F < length atoms → IsAtom (nth_atom atoms F)
  pub apart : (F G : ℕ) → F < length atoms → G < length atoms → (nth_atom atoms F).table ≡ (nth_atom atoms G).table → F ≡ G
  pub few_answers : length answer ≤ MOST_ANSWER_COLUMNS
  pub conds_in_range : (k : Cond) → Contains conds k → (c : ColRef) → Contains (columns_of k) c → IsInRange atoms c
  pub answer_in_range : (c : ColRef) → Contains answer c → IsInRange atoms c
