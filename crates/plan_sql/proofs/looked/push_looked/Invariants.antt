use Rattle.std.proofs.Common.{◌≡◌, drop}
use Rattle.plan_sql.specs.Statement.{guard_for}
use Rattle.plan_sql.proofs.looked.push_looked.Given as goal

-- what is left, and no step more
abbrev pub invariant-loop-bound : goal.invariant-loop-bound
invariant-loop-bound l = record {
  left : guard_for l.shape.query.now (drop l.bound-index l.level.bounds.now) l.vs ≡ guard_for l.shape.query.now l.level.bounds.now l.vs;
  same : l.steps ≡ l.fn.steps;
}
