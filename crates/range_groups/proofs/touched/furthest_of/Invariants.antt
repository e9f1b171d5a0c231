use Rattle.std.proofs.Common.{take}
use Rattle.range_join.specs.Peaks.{held_value, IsPeak}
use Rattle.range_groups.specs.Touched.{IsCarried}
use Rattle.range_groups.proofs.touched.furthest_of.Given as goal

-- the same of the carriers so far
abbrev pub invariant-loop-carrier : goal.invariant-loop-carrier
invariant-loop-carrier l = IsPeak l.way (IsCarried l.col (take l.carrier-index l.carriers)) (held_value l.col l.best)
