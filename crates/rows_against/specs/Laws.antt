-- The laws of rows that are kept against a row.
use Rattle.std.specs.Prelude.{◌↔◌, List}
use Rattle.cqa_value.specs.declared.value.Value.{Value}
use Rattle.cqa_model.specs.declared.query.Query.{Query}
use Rattle.cqa_model.specs.declared.query.RowId.{RowId}
use Rattle.cqa_model.specs.Database.{Table, IsDatabase}
use Rattle.cqa_model.specs.Query.{FitsDatabase}
use Rattle.cqa_model.specs.Certain.{IsCertain}
use Rattle.join_access.specs.Listing.{AreAllNames}
use Rattle.table_blocks.specs.Tables.{AreStored}
use Rattle.rows_against.specs.Against.{AreOfDifferentBlocks, Excludes, IsAgainst}
use Rattle.rows_against.specs.Hits.{AreHit}

-- Stored rows of different blocks exclude a row exactly where they hit each of its witnesses.
abbrev pub RowsExcludeByHits : Type 0
RowsExcludeByHits = (db : List Table) (q : Query) (row : List Value) (all : List (List RowId)) (names : List RowId) → IsDatabase db → FitsDatabase q db → AreAllNames q db row all →
    AreStored db names → AreOfDifferentBlocks db names → Excludes db q row names ↔ AreHit db all names

-- A row isn't certain where there are such rows.
abbrev pub AgainstIsUncertain : Type 0
AgainstIsUncertain = (db : List Table) (q : Query) (row : List Value) (names : List RowId) → IsAgainst db q row names → IsCertain db q row → ⊥
