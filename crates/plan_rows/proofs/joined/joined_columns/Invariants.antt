use Rattle.std.proofs.Common.{◌≤◌, length}
use Rattle.plan_rows.specs.Joining.{AreJoinedFirst}
use Rattle.plan_rows.proofs.joined.joined_columns.Given as goal

-- those of the columns so far
abbrev pub invariant-loop-col : goal.invariant-loop-col
invariant-loop-col l = record {
  few : length l.joined ≤ l.col;
  found : AreJoinedFirst l.bound.query.now l.bound.variables l.atom l.col l.joined;
}
