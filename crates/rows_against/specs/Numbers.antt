-- The rows that hit witnesses, by their numbers: for each atom and each witness, the number of the row that hits it there.
use Rattle.std.specs.Prelude.{◌≡◌, ℕ, ◌<◌, ◌≤◌, List, [], length, Option, None, slice_index, slice_index_or}
use Rattle.cqa_model.specs.declared.query.RowId.{RowId}
use Rattle.cqa_model.specs.declared.query.Query.{Query}
use Rattle.cqa_model.specs.Database.{Table}
use Rattle.cqa_model.specs.Query.{atom_at}
use Rattle.row_witnesses.specs.Columns.{place_at}
use Rattle.rows_against.specs.Hits.{IsHitBy}
use Rattle.rows_against.specs.Parts.{kept_name_at}

-- the row of an atom at a place
abbrev pub row_name : Query → ℕ → ℕ → RowId
row_name q F p = record { table = (atom_at q F).table; place = p }

-- an atom of the query, from one on, has the table of the name with a number
abbrev pub IsFrom : Query → List RowId → ℕ → ℕ → Type 0
IsFrom q names F k = (G : ℕ) × (F ≤ G) × (G < length q.atoms) × ((atom_at q G).table ≡ (kept_name_at names k).table)

-- an atom before it has
abbrev pub HasEarlierAtom : Query → List RowId → ℕ → ℕ → Type 0
HasEarlierAtom q names F k = (G : ℕ) × (G < F) × ((atom_at q G).table ≡ (kept_name_at names k).table)

-- the names of the tables of the atoms from one on begin at an index
pub record TableBeginsAt (q : Query) (names : List RowId) (F from : ℕ) : Type 0 where
  pub within : from ≤ length names
  pub before : (k : ℕ) → k < from → HasEarlierAtom q names F k
  pub behind : (k : ℕ) → from ≤ k → k < length names → IsFrom q names F k

-- the numbers of the rows that are others of the blocks of an atom's rows at these places
abbrev pub AreRivals : List Table → Query → List RowId → ℕ → List ℕ → List (Option ℕ) → Type 0
AreRivals db q names F places found = (i : ℕ) → i < length places → IsHitBy db names (row_name q F (slice_index places i)) (slice_index_or found i None)

-- the numbers of the rows that hit witnesses at an atom
abbrev pub AreHitsAt : List Table → Query → List (List RowId) → List RowId → ℕ → List (Option ℕ) → Type 0
AreHitsAt db q all names F hits = (i : ℕ) → i < length all → IsHitBy db names (row_name q F (place_at (slice_index_or all i []) F)) (slice_index_or hits i None)

-- so they are at each atom, as far as there are lists
abbrev pub AreHits : List Table → Query → List (List RowId) → List RowId → List (List (Option ℕ)) → Type 0
AreHits db q all names hits = (F : ℕ) → F < length hits → AreHitsAt db q all names F (slice_index_or hits F [])
