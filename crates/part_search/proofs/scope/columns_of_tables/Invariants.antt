use Rattle.std.proofs.Common.{take}
use Rattle.std.specs.List.{AllZip}
use Rattle.part_search.specs.Spoken.{AreSpokenIn}
use Rattle.part_search.proofs.scope.columns_of_tables.Given as goal

-- the columns of the tables so far
abbrev pub invariant-loop-table : goal.invariant-loop-table
invariant-loop-table l = AllZip (AreSpokenIn l.parts) (take l.table-index l.tables) l.columns.items
