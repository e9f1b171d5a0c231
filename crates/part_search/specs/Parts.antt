-- The witnesses of a row for the parts of a union, by the names of their rows, and the tables of the parts.
use Rattle.std.specs.Prelude.{◌≡◌, ℕ, ◌<◌, ◌++◌, List, [], ◌∷◌, length, Contains}
use Rattle.cqa_value.specs.declared.value.Value.{Value}
use Rattle.cqa_model.specs.declared.query.ColRef.{ColRef}
use Rattle.cqa_model.specs.declared.query.Query.{Query}
use Rattle.cqa_model.specs.declared.query.RowId.{RowId}
use Rattle.cqa_model.specs.Database.{Table}
use Rattle.cqa_model.specs.Query.{atom_at, FitsDatabase}
use Rattle.join_access.specs.Listing.{AreAllNames, AreNamesOf}
use Rattle.join_access.specs.declared.witness.TheConstants.{MOST_WITNESSES}
use Rattle.row_lists.specs.Formulas.{IsFrame}
use Rattle.part_search.specs.Spoken.{IsSpokenOf}

-- the names of the witnesses of the parts, part by part, each part's counted by itself
abbrev pub AreNamesIn : List Query → List Table → List Value → List (List RowId) → Type 0
AreNamesIn [] db row all = all ≡ []
AreNamesIn (q ∷ parts) db row all = (first : List (List RowId)) × (rest : List (List RowId)) × AreAllNames q db row first × AreNamesIn parts db row rest × (all ≡ first ++ rest)

-- they are more than `MOST_WITNESSES`
abbrev pub HasTooManyIn : List Query → List Table → List Value → Type 0
HasTooManyIn parts db row = (all : List (List RowId)) × AreNamesIn parts db row all × (MOST_WITNESSES < length all)

-- all parts fit the database
abbrev pub AllFit : List Query → List Table → Type 0
AllFit parts db = (q : Query) → Contains parts q → FitsDatabase q db

-- a list of names is that of a witness of some part
abbrev pub IsOfSome : List Query → List Table → List Value → List RowId → Type 0
IsOfSome parts db row names = (q : Query) × Contains parts q × AreNamesOf q db row names

-- the columns of each table have all that some part speaks of
abbrev pub HaveSpoken : List Query → (ℕ → List ℕ) → Type 0
HaveSpoken parts columns = (q : Query) → Contains parts q → (c : ColRef) → IsSpokenOf q c → c.atom < length q.atoms → Contains (columns (atom_at q c.atom).table) c.col

-- the table is that of an atom of a query
abbrev pub IsTableOf : Query → ℕ → Type 0
IsTableOf q t = (F : ℕ) × (F < length q.atoms) × ((atom_at q F).table ≡ t)

-- and of some part
abbrev pub IsTableIn : List Query → ℕ → Type 0
IsTableIn parts t = (q : Query) × Contains parts q × IsTableOf q t

-- tables of a database, each once, with those of all parts among them
pub record IsFrameFor (db : List Table) (parts : List Query) (tables : List ℕ) : Type 0 where
  pub is : IsFrame db tables
  pub all : (t : ℕ) → IsTableIn parts t → Contains tables t
