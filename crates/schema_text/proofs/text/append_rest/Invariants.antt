use Rattle.std.proofs.Common.{◌≡◌, ◌++◌, codes, take}
use Rattle.std.specs.List.{flat_map}
use Rattle.cqa_model.specs.Shape.{column_at}
use Rattle.schema_text.proofs.text.append_rest.Given as goal

-- the names so far are written
abbrev pub invariant-loop-place : goal.invariant-loop-place
invariant-loop-place l = l.out.items ≡ l.fn.out.items ++ flat_map (λ place. codes ", " ++ (column_at l.schema.columns place).name) (take l.place-index l.rest)
