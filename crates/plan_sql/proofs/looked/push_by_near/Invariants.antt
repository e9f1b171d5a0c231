use Rattle.std.proofs.Common.{◌≡◌, drop}
use Rattle.plan_sql.specs.declared.bounds.Bound.{Bound}
use Rattle.plan_sql.specs.Statement.{completes, first_of}
use Rattle.plan_sql.proofs.looked.push_by_near.Given as goal

-- what is left, and no step more
abbrev pub invariant-loop-far : goal.invariant-loop-far
invariant-loop-far l = record {
  left : first_of (λ (b : Bound). completes l.shape.query.now l.near l.vs b) (drop l.far-index l.level.bounds.now) ≡ first_of (λ (b : Bound). completes l.shape.query.now l.near l.vs b) l.level.bounds.now;
  same : l.steps ≡ l.fn.steps;
}
