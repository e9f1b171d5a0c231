use Rattle.std.proofs.Common.{◌≡◌, length}
use Rattle.plan_rows.specs.Left.{AreSharedInParts}
use Rattle.plan_rows.proofs.shared.shared_columns.Given as goal

-- there are lists for the numbers so far
abbrev pub invariant-loop-count : goal.invariant-loop-count
invariant-loop-count l = record {
  size : length l.shared.items ≡ l.count;
  shared : AreSharedInParts l.setting.bound.now.query.now l.order l.shared.items;
}
