use Rattle.std.proofs.Common.{◌≡◌, take}
use Rattle.cqa_model.specs.Database.{row_total}
use Rattle.table_blocks.proofs.database.Database.row_total.Given as goal

-- the rows of the tables so far
abbrev pub invariant-loop-table : goal.invariant-loop-table
invariant-loop-table l = l.total ≡ row_total (take l.table l.self)
