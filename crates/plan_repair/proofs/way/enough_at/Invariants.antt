use Rattle.std.proofs.Common.{ℕ, ◌<◌, ◌≤◌, get_or, take, drop}
use Rattle.plan_repair.specs.Apart.{IsAtomApart}
use Rattle.plan_repair.proofs.way.enough_at.Given as goal

-- the atoms so far bring nothing to those from the place on
abbrev pub invariant-loop-enough : goal.invariant-loop-enough
invariant-loop-enough l = record {
  within : l.enough ≤ l.place;
  apart : (k : ℕ) → l.enough ≤ k → k < l.place → IsAtomApart l.bound.query.now (take k l.order) (get_or l.order k 0) (drop l.place l.order);
}

abbrev pub decreases-loop-enough : goal.decreases-loop-enough
decreases-loop-enough l = l.enough
