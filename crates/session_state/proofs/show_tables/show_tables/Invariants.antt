use Rattle.std.proofs.Common.{take}
use Rattle.std.specs.List.{AllZip}
use Rattle.session_state.specs.ShowTables.{IsTableLine}
use Rattle.session_state.proofs.show_tables.show_tables.Given as goal

-- the lines of the tables so far
abbrev pub invariant-loop-table : goal.invariant-loop-table
invariant-loop-table l = AllZip IsTableLine (take l.table l.database) l.lines
