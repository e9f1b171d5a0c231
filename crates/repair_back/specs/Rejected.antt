-- A row isn't certain, told by the rows that a repair had to choose.
use Rattle.std.specs.Prelude.{◌≡◌, List}
use Rattle.cqa_value.specs.declared.value.Value.{Value}
use Rattle.cqa_model.specs.declared.query.Query.{Query}
use Rattle.cqa_model.specs.declared.query.RowId.{RowId}
use Rattle.cqa_model.specs.Database.{Table}
use Rattle.repair_back.specs.Results.{Rejects, contested_of}

-- The row isn't certain: a repair holds no witness of it. Its rows in the blocks of two or more rows tell the repair, by
-- the query's tables and then in block order; of each other block it keeps the only row.
abbrev pub AreRejectingRows : List Table → Query → List Value → List RowId → Type 0
AreRejectingRows db q row names = (kept : List RowId) × Rejects q db row kept × (names ≡ contested_of db kept)
