use Rattle.std.proofs.Common.{◌≡◌, map}
use Rattle.std.specs.List.{range_with_len}
use Rattle.cqa_model.specs.Labels.{label}
use Rattle.sql_steps.proofs.shape.variables_of.Given as goal

-- the variables of the columns so far
abbrev pub invariant-loop-col : goal.invariant-loop-col
invariant-loop-col l = l.list ≡ map (λ i. label l.query.conds (record { atom = l.atom; col = i })) (range_with_len 0 l.col)
