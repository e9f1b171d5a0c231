use Rattle.std.proofs.Common.{◌≤◌, ◌*◌}
use Rattle.cqa_model.specs.declared.limits.TheConstants.{MOST_ROWS}
use Rattle.plan_rows.proofs.course.row_total.Given as goal

-- no table has more rows than a table may have
abbrev pub invariant-loop-atom : goal.invariant-loop-atom
invariant-loop-atom l = l.rows ≤ l.atom-index * MOST_ROWS
