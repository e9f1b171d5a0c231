use Rattle.std.proofs.Common.{◌≡◌, ◌++◌, take}
use Rattle.std.specs.List.{flat_map}
use Rattle.sql_steps.specs.declared.part.Part.{Part}
use Rattle.plan_sql.proofs.levels.part_variables.Given as goal

-- those so far
abbrev pub invariant-loop-part : goal.invariant-loop-part
invariant-loop-part l = l.list.items ≡ l.vs ++ flat_map (λ (p : Part). p.columns) (take l.part-index l.parts)
