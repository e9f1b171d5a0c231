use Rattle.std.proofs.Common.{◌+◌, take}
use Rattle.range_groups.proofs.Furthest.{IsCarrying}
use Rattle.range_groups.proofs.touched.find_carriers.Given as goal

-- the carriers of the members so far
abbrev pub invariant-loop-member : goal.invariant-loop-member
invariant-loop-member l = IsCarrying l.look.way l.db l.look.atom l.look.col (take (l.member-index + 1) l.members) l.carriers.items l.held
