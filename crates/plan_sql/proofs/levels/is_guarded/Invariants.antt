use Rattle.std.proofs.Common.{◌≡◌, false, take}
use Rattle.std.specs.List.{list_any}
use Rattle.plan_sql.specs.declared.bounds.Bound.{Bound}
use Rattle.sql_steps.specs.Variables.{covers, variables_of}
use Rattle.plan_sql.proofs.levels.is_guarded.Given as goal

-- those so far
abbrev pub invariant-loop-bound : goal.invariant-loop-bound
invariant-loop-bound l = list_any (λ (b : Bound). covers (variables_of l.shape.query.now b.atom) l.vs) (take l.bound-index l.bounds) ≡ false
