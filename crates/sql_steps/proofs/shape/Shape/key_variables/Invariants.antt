use Rattle.std.proofs.Common.{◌≡◌, map, take}
use Rattle.std.specs.List.{slice_index}
use Rattle.sql_steps.proofs.shape.Shape.key_variables.Given as goal

-- the variables of the columns so far
abbrev pub invariant-loop-column : goal.invariant-loop-column
invariant-loop-column l = l.list ≡ map (λ i. slice_index l.vs i) (take l.column-index l.column-items)
