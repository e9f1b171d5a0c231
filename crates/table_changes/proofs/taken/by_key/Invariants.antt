use Rattle.std.proofs.Common.{◌≡◌, take}
use Rattle.table_changes.specs.Taken.{shown}
use Rattle.table_changes.proofs.taken.by_key.Given as goal

-- the references so far are to the rows so far
abbrev pub invariant-loop-row : goal.invariant-loop-row
invariant-loop-row l = shown l.sorted.items ≡ take l.row-index l.rows
