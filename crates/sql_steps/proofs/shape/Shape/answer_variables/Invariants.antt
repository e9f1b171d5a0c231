use Rattle.std.proofs.Common.{◌≡◌, map, take}
use Rattle.std.specs.List.{slice_index}
use Rattle.cqa_model.specs.declared.query.ColRef.{ColRef}
use Rattle.sql_steps.specs.Variables.{variables_of}
use Rattle.sql_steps.proofs.shape.Shape.answer_variables.Given as goal

-- the variables of the columns so far
abbrev pub invariant-loop-column : goal.invariant-loop-column
invariant-loop-column l = l.list ≡ map (λ (c : ColRef). slice_index (variables_of l.self.query.now c.atom) c.col) (take l.column-index l.column-items)
