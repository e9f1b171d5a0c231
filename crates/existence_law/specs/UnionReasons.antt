-- Why a row is certain for a union, or why it isn't, can be told, or what keeps that from being told.
use Rattle.std.specs.Prelude.{◌⊎◌, ℕ, List}
use Rattle.cqa_value.specs.declared.value.Value.{Value}
use Rattle.cqa_model.specs.declared.query.Query.{Query}
use Rattle.cqa_model.specs.declared.query.RowId.{RowId}
use Rattle.cqa_model.specs.Database.{Table, IsDatabase}
use Rattle.cqa_model.specs.Unions.{IsCertainIn}
use Rattle.part_search.specs.Parts.{AllFit}
use Rattle.repair_back.specs.declared.reason.Reason.{Reason}
use Rattle.repair_back.specs.declared.reason.Untold.{Untold}
use Rattle.table_blocks.specs.Tables.{AreStored}
use Rattle.union_ask.specs.Reasons.{IsReasonIn, IsUntoldIn}
use Rattle.union_ask.specs.Repairs.{AreRejectingRowsIn}

-- A row that isn't certain has a repair without a witness, told by its rows in the blocks of two or more rows.
abbrev pub UnionRejectionsExist : Type 0
UnionRejectionsExist = (db : List Table) (parts : List Query) (row : List Value) → AllFit parts db → (IsCertainIn db parts row → ⊥) → (names : List RowId) × (AreRejectingRowsIn db parts row names × AreStored db names)

-- A row has a reason within a budget; or it has too many witnesses, or a spent log for the budget.
abbrev pub UnionReasonsExist : Type 0
UnionReasonsExist =
    (db : List Table) (parts : List Query) (row : List Value) (budget : ℕ) → IsDatabase db → AllFit parts db → ((reason : Reason) × IsReasonIn db parts row budget reason) ⊎ ((why : Untold) × IsUntoldIn db parts row budget why)
