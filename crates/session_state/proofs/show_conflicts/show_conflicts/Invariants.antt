use Rattle.std.proofs.Common.{take}
use Rattle.std.specs.List.{AllZip}
use Rattle.session_state.specs.ShowConflicts.{IsConflictLine}
use Rattle.session_state.proofs.show_conflicts.show_conflicts.Given as goal

-- the lines of the tables so far
abbrev pub invariant-loop-table : goal.invariant-loop-table
invariant-loop-table l = AllZip IsConflictLine (take l.table l.database) l.lines
