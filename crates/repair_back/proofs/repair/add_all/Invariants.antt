use Rattle.std.proofs.Common.{◌≡◌, ◌++◌, take}
use Rattle.repair_back.specs.Results.{names_kept}
use Rattle.repair_back.proofs.repair.add_all.Given as goal

-- the names of the tables so far
abbrev pub invariant-loop-table : goal.invariant-loop-table
invariant-loop-table l = l.names.items ≡ l.initial.names.items ++ names_kept (take l.table-index l.tables) l.kept
