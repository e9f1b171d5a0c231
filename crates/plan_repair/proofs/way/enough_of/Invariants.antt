use Rattle.std.proofs.Common.{◌≡◌, length}
use Rattle.plan_repair.specs.Apart.{AreEnough}
use Rattle.plan_repair.proofs.way.enough_of.Given as goal

-- there are numbers for the places so far
abbrev pub invariant-loop-place : goal.invariant-loop-place
invariant-loop-place l = record {
  size : length l.enough.items ≡ l.place;
  enough : AreEnough l.setting.bound.now.query.now l.order l.enough.items;
}
