use Rattle.std.proofs.Common.{◌≡◌}
use Rattle.sql_steps.specs.Variables.{all_below}
use Rattle.sql_steps.specs.Steps.{cells_at}
use Rattle.sql_steps.proofs.groups.first_cells.Given as goal

-- those so far
abbrev pub invariant-loop-column : goal.invariant-loop-column
invariant-loop-column l = l.cells ≡ cells_at l.place (all_below l.column)
