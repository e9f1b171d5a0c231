-- The relevant blocks of a row as runs of places, and the numbers of its witnesses' rows.
use Rattle.std.specs.Prelude.{◌≡◌, ℕ, suc, ◌<◌, ◌∷◌, List, [], length, Contains, slice_index}
use Rattle.cqa_value.specs.declared.value.Value.{Value}
use Rattle.cqa_model.specs.declared.query.Query.{Query}
use Rattle.cqa_model.specs.declared.query.RowId.{RowId}
use Rattle.cqa_model.specs.Database.{Table, stored}
use Rattle.cqa_model.specs.Query.{atom_key, rows_of, row_at, IsWitness}
use Rattle.cqa_model.specs.Formula.{IsRelevant}
use Rattle.row_witnesses.specs.Columns.{place_at}
use Rattle.row_lists.specs.declared.span.Span.{Span}
use Rattle.row_lists.specs.Clauses.{Variable, HasNumber}
use Rattle.row_lists.specs.Spans.{at, IsWholeBlock}
use Rattle.repair_clauses.specs.Clauses.{variable_row}

-- a whole block, which is relevant
pub record IsRelevantSpan (q : Query) (db : List Table) (row : List Value) (s : Span) : Type 0 where
  pub there : s.slot < length q.atoms
  pub whole : IsWholeBlock (atom_key q s.slot) (rows_of q (stored db) s.slot) s
  pub relevant : IsRelevant q (stored db) row s.slot (variable_row q db (at s.slot s.start))

-- the places of a witness's rows, atom by atom
pub record IsPlacedWitness (q : Query) (db : List Table) (row : List Value) (places : List ℕ) : Type 0 where
  pub rows : List (List Value)
  pub witness : IsWitness q (stored db) row rows
  pub size : length places ≡ length q.atoms
  pub each : (F : ℕ) → F < length q.atoms → (slice_index places F < length (rows_of q (stored db) F)) × (variable_row q db (at F (slice_index places F)) ≡ row_at rows F)

-- the places of rows of the atoms from F on, and their numbers
abbrev pub AreNumbers : List Variable → ℕ → List ℕ → List ℕ → Type 0
AreNumbers variables F [] [] = Unit {0}
AreNumbers variables F [] (n ∷ ns) = ⊥
AreNumbers variables F (p ∷ ps) [] = ⊥
AreNumbers variables F (p ∷ ps) (n ∷ ns) = HasNumber variables n (at F p) × AreNumbers variables (suc F) ps ns

-- one of the witnesses has the row at a place of an atom
abbrev pub IsNamed : List (List RowId) → ℕ → ℕ → Type 0
IsNamed all F p = (names : List RowId) × Contains all names × (place_at names F ≡ p)
