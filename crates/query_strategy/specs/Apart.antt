-- Parts of a union that share no table but strict ones.
use Rattle.std.specs.Prelude.{◌≡◌, ◌<◌, ◌≤◌, ◌⊎◌, ℕ, false, List, length, Contains, slice_index_or}
use Rattle.cqa_model.specs.declared.query.Query.{Query}
use Rattle.cqa_model.specs.Database.{Table}
use Rattle.cqa_model.specs.Query.{atom_at, IsStrict, FitsDatabase}
use Rattle.query_strategy.specs.declared.shared.Shared.{Shared}

-- the part at a place
abbrev pub IsPartAt : List Query → ℕ → Query → Type 0
IsPartAt parts k q = (k < length parts) × (slice_index_or parts k q ≡ q)

-- an atom of the query is over the table, which isn't strict: its rows may differ between repairs
abbrev pub IsLooseAt : Query → ℕ → ℕ → Type 0
IsLooseAt q F t = (F < length q.atoms) × ((atom_at q F).table ≡ t) × ((atom_at q F).strict ≡ false)

abbrev pub HasLoose : Query → ℕ → Type 0
HasLoose q t = (F : ℕ) × IsLooseAt q F t

-- a part behind another one has such a table
abbrev pub IsLater : List Query → ℕ → ℕ → ℕ → Type 0
IsLater parts first t second = (first < second) × ((q : Query) × IsPartAt parts second q × HasLoose q t)

-- an atom of one part and a later part have one table that isn't strict
pub record IsShared (parts : List Query) (s : Shared) : Type 0 where
  pub first : (q : Query) × IsPartAt parts s.first q × IsLooseAt q s.atom s.table
  pub second : IsLater parts s.first s.table s.second

-- no such table stands in two parts
abbrev pub AreApart : List Query → Type 0
AreApart parts = (s : Shared) → IsShared parts s → ⊥

-- of those of one part, the first of its tables, and the first later part that has it
pub record IsFirstOf (parts : List Query) (first : ℕ) (s : Shared) : Type 0 where
  pub shared : IsShared parts s
  pub of_part : s.first ≡ first
  pub first_table : (x : Shared) → IsShared parts x → x.first ≡ first → s.atom ≤ x.atom
  pub first_later : (x : Shared) → IsShared parts x → x.first ≡ first → x.atom ≡ s.atom → s.second ≤ x.second

-- of all, that of the first part that has one
pub record IsFirstShared (parts : List Query) (s : Shared) : Type 0 where
  pub of_first : IsFirstOf parts s.first s
  pub first_part : (x : Shared) → IsShared parts x → s.first ≤ x.first

-- Where parts that fit a database are apart, two of their atoms over one table are of one part or the table is strict. A part d
-- stands for one that isn't there.
abbrev pub ApartByIndex : Type 0
ApartByIndex =
    (db : List Table) (d : Query) (parts : List Query) → ((q : Query) → Contains parts q → FitsDatabase q db) → AreApart parts →
    (i j F G : ℕ) → i < length parts → j < length parts → F < length (slice_index_or parts i d).atoms → G < length (slice_index_or parts j d).atoms →
    (atom_at (slice_index_or parts i d) F).table ≡ (atom_at (slice_index_or parts j d) G).table → (i ≡ j) ⊎ IsStrict (slice_index_or parts i d) F
