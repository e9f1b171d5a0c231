use Rattle.std.proofs.Common.{◌≡◌, length}
use Rattle.plan_rows.specs.Links.{AreWays}
use Rattle.fo_plan.proofs.ways.add_ways.Given as goal

-- there are links of the atoms so far
abbrev pub invariant-loop-atom : goal.invariant-loop-atom
invariant-loop-atom l = record {
  size : length l.ways.items ≡ l.atom;
  ways : AreWays l.setting.bound.now.query.now l.setting.bound.now.db.now l.order l.ways.items;
}
