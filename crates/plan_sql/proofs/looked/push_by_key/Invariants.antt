use Rattle.std.proofs.Common.{◌≡◌, drop}
use Rattle.plan_sql.specs.declared.bounds.Bound.{Bound}
use Rattle.sql_steps.specs.Variables.{key_variables, covers, variables_of}
use Rattle.plan_sql.specs.Statement.{first_of}
use Rattle.plan_sql.proofs.looked.push_by_key.Given as goal

-- what is left, and no step more
abbrev pub invariant-loop-near : goal.invariant-loop-near
invariant-loop-near l = record {
  left : first_of (λ (b : Bound). covers (variables_of l.shape.query.now b.atom) (key_variables l.shape.query.now l.level.atom)) (drop l.near-index l.level.bounds.now)
      ≡ first_of (λ (b : Bound). covers (variables_of l.shape.query.now b.atom) (key_variables l.shape.query.now l.level.atom)) l.level.bounds.now;
  same : l.steps ≡ l.fn.steps;
}
