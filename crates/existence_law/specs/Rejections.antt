-- Where a row isn't certain, the rows that a repair had to choose tell so.
use Rattle.std.specs.Prelude.{List}
use Rattle.cqa_value.specs.declared.value.Value.{Value}
use Rattle.cqa_model.specs.declared.query.Query.{Query}
use Rattle.cqa_model.specs.declared.query.RowId.{RowId}
use Rattle.cqa_model.specs.Database.{Table}
use Rattle.cqa_model.specs.Repairs.{IsRepair}
use Rattle.cqa_model.specs.Query.{FitsDatabase}
use Rattle.cqa_model.specs.Certain.{IsCertain}
use Rattle.repair_back.specs.Results.{AreKept}
use Rattle.table_blocks.specs.Tables.{AreStored}
use Rattle.repair_back.specs.Rejected.{AreRejectingRows}

-- The rows that a repair keeps of a query's tables have names.
abbrev pub KeptRowsHaveNames : Type 0
KeptRowsHaveNames = (db : List Table) (q : Query) (kept : List (List (List Value))) → FitsDatabase q db → IsRepair db kept → (names : List RowId) × (AreKept q db names kept × AreStored db names)

-- A row that isn't certain has a repair without a witness, told by its rows in the blocks of two or more rows.
abbrev pub RejectionsExist : Type 0
RejectionsExist = (db : List Table) (q : Query) (row : List Value) → FitsDatabase q db → (IsCertain db q row → ⊥) → (names : List RowId) × (AreRejectingRows db q row names × AreStored db names)
