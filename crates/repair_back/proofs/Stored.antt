-- Rows that were chosen from blocks are stored.
use Rattle.std.proofs.Common.{List}
use Rattle.cqa_value.proofs.Words.{Contains-filter}
use Rattle.cqa_model.specs.declared.query.RowId.{RowId}
use Rattle.cqa_model.specs.Database.{Table}
use Rattle.repair_back.specs.Results.{is_contested_in, contested_of}
use Rattle.table_blocks.specs.Tables.{AreStored}

pub contested-stored : (db : List Table) (names : List RowId) → AreStored db names → AreStored db (contested_of db names)
contested-stored db names h name m = h name ((Contains-filter (is_contested_in db) names name).0 m).0
