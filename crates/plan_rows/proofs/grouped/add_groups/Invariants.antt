use Rattle.std.proofs.Common.{◌<◌, length}
use Rattle.plan_rows.proofs.Grouping.{IsGrouping}
use Rattle.plan_rows.proofs.grouped.add_groups.Given as goal

-- some atoms were added, and the others are left
abbrev pub invariant-loop : goal.invariant-loop
invariant-loop l = record {
  there : l.atom < length l.setting.bound.now.query.now.atoms;
  grouping : IsGrouping l.setting.bound.now.query.now l.atoms l.fn.order.items l.order.items l.left.items;
}
