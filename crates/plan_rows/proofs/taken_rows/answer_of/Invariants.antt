use Rattle.std.proofs.Common.{◌≡◌, take, map}
use Rattle.plan_rows.specs.Taking.{placed, taken_value}
use Rattle.plan_rows.proofs.taken_rows.answer_of.Given as goal

-- the values of the columns so far
abbrev pub invariant-loop-column : goal.invariant-loop-column
invariant-loop-column l = l.answer ≡ map (taken_value (placed l.taken)) (take l.column-index l.columns)
