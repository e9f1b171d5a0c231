use Rattle.std.proofs.Common.{◌≤◌, ◌-◌}
use Rattle.plan_rows.specs.Wanted.{NoneWanted}
use Rattle.plan_rows.proofs.wanted.Wanted.resume.Given as goal

-- no row from `low` on is passed over
abbrev pub invariant-loop-place : goal.invariant-loop-place
invariant-loop-place l = record {
  within : l.place ≤ l.size;
  none : NoneWanted l.self l.low l.place;
}

abbrev pub decreases-loop-place : goal.decreases-loop-place
decreases-loop-place l = l.low - l.place
