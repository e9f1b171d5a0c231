use Rattle.std.proofs.Common.{◌≡◌, map}
use Rattle.std.specs.List.{range_with_len, slice_index}
use Rattle.sql_steps.specs.Steps.{cell_of}
use Rattle.plan_sql.proofs.bounds.only_in.Given as goal

-- those so far
abbrev pub invariant-loop-column : goal.invariant-loop-column
invariant-loop-column l = l.only ≡ map (λ j. record { cell = cell_of l.known (slice_index l.columns j); step = l.place; column = j }) (range_with_len 0 l.column)
