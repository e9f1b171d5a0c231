use Rattle.std.proofs.Common.{◌≤◌, ◌-◌, length}
use Rattle.fo_plan.specs.Enough.{IsBlockPassed, IsSpot}
use Rattle.fo_plan.proofs.enough.Blocks.looked_up.Given as goal

-- what was passed so far
abbrev pub invariant-loop-at : goal.invariant-loop-at
invariant-loop-at l = record {
  low : l.fn.spot.place ≤ l.at;
  passed : IsBlockPassed l.self l.fn.spot.place l.at;
  spot : IsSpot l.self l.spot;
}

abbrev pub decreases-loop-at : goal.decreases-loop-at
decreases-loop-at l = length l.self.rows - l.at
