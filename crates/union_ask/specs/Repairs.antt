-- Repairs of a union's tables, by the names of their rows.
use Rattle.std.specs.Prelude.{◌≡◌, ℕ, Bool, List, Contains}
use Rattle.cqa_value.specs.declared.value.Value.{Value}
use Rattle.cqa_model.specs.declared.query.Query.{Query}
use Rattle.cqa_model.specs.declared.query.RowId.{RowId}
use Rattle.cqa_model.specs.Database.{Table}
use Rattle.cqa_model.specs.Repairs.{IsRepair}
use Rattle.cqa_model.specs.Unions.{HoldsSome}
use Rattle.cqa_model.specs.Blocks.{IsPick}
use Rattle.table_blocks.specs.Tables.{rows_at, key_at}
use Rattle.repair_back.specs.Results.{AreKeptOver, IsTrueName, contested_of}
use Rattle.part_search.specs.Parts.{IsTableIn}
use Rattle.union_ask.specs.Candidates.{AreTablesIn}

-- a repair of the database keeps these rows of the union's tables, by tables in the order of their creation and then in block
-- order
pub record IsUnionRepair (db : List Table) (parts : List Query) (names : List RowId) : Type 0 where
  pub tables : List ℕ
  pub are_tables : AreTablesIn parts tables
  pub kept : List (List (List Value))
  pub repair : IsRepair db kept
  pub are_kept : AreKeptOver db tables names kept

-- each of these names is the pick of its block: the first row of it that is listed with `true`, or else its first row
abbrev pub AreUnionPicks : List Table → List Query → List RowId → List Bool → List RowId → Type 0
AreUnionPicks db parts listed model names = (t : ℕ) → IsTableIn parts t → (p : ℕ) → Contains names (record { table = t; place = p }) →
    IsPick (key_at db t) (rows_at db t) (λ i. IsTrueName listed model (record { table = t; place = i })) p

-- such a repair holds no witness of a row for any part
pub record RejectsIn (db : List Table) (parts : List Query) (row : List Value) (names : List RowId) : Type 0 where
  pub repair : IsUnionRepair db parts names
  pub holds_none : HoldsSome parts repair.kept row → ⊥

-- it is told by its rows in the blocks of two or more rows; of each other block it keeps the only row
abbrev pub AreRejectingRowsIn : List Table → List Query → List Value → List RowId → Type 0
AreRejectingRowsIn db parts row names = (kept : List RowId) × RejectsIn db parts row kept × (names ≡ contested_of db kept)
