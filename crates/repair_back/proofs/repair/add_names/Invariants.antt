use Rattle.std.proofs.Common.{◌≡◌, ◌++◌, take}
use Rattle.repair_back.specs.Flags.{places_from}
use Rattle.repair_back.proofs.repair.add_names.Given as goal
use Rattle.table_blocks.specs.Tables.{names_in}

-- the names of the rows so far
abbrev pub invariant-loop-place : goal.invariant-loop-place
invariant-loop-place l = l.names.items ≡ l.initial.names.items ++ names_in l.table (places_from 0 (take l.place l.choice))
