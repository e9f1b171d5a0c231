use Rattle.std.proofs.Common.{◌≡◌, take}
use Rattle.sql_steps.specs.Steps.{cells_at}
use Rattle.sql_steps.proofs.groups.cells_at.Given as goal

-- those so far
abbrev pub invariant-loop-column : goal.invariant-loop-column
invariant-loop-column l = l.cells ≡ cells_at l.place (take l.column-index l.columns)
