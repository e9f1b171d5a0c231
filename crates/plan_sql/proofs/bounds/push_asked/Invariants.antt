use Rattle.std.proofs.Common.{◌≡◌, drop}
use Rattle.plan_sql.specs.Statement.{bound_for}
use Rattle.plan_sql.proofs.bounds.push_asked.Given as goal

-- what is left, and no step more
abbrev pub invariant-loop-bound : goal.invariant-loop-bound
invariant-loop-bound l = record {
  left : bound_for l.shape.query.now (drop l.bound-index l.bounds) l.atom ≡ bound_for l.shape.query.now l.bounds l.atom;
  same : l.steps ≡ l.fn.steps;
}
