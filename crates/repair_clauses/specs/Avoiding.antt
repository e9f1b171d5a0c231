-- Rows of witnesses in whose place a repair can keep a free row: one of their block that is in no witness.
use Rattle.std.specs.Prelude.{◌≡◌, ℕ, ◌<◌, List, [], length, true, false, Bool, slice_index_or}
use Rattle.cqa_model.specs.declared.query.Query.{Query}
use Rattle.cqa_model.specs.declared.query.RowId.{RowId}
use Rattle.cqa_model.specs.Database.{Table, stored}
use Rattle.cqa_model.specs.Query.{atom_key, rows_of}
use Rattle.row_witnesses.specs.Columns.{place_at, AreColumn}
use Rattle.row_lists.specs.Loose.{HasFreePlace}

-- one of the named rows of a witness has a free row in its block
pub record IsAvoidable (q : Query) (db : List Table) (all : List (List RowId)) (names : List RowId) : Type 0 where
  pub atom : ℕ
  pub there : atom < length q.atoms
  pub places : List ℕ
  pub column : AreColumn all atom places
  pub free : HasFreePlace (atom_key q atom) (rows_of q (stored db) atom) places (place_at names atom)

-- the marked witnesses are such witnesses
abbrev pub AreMarkedWitnesses : Query → List Table → List (List RowId) → List Bool → Type 0
AreMarkedWitnesses q db all marks = (i : ℕ) → i < length all → slice_index_or marks i false ≡ true → IsAvoidable q db all (slice_index_or all i [])
