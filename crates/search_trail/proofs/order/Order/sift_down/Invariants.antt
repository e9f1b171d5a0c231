use Rattle.std.proofs.Common.{◌-◌, ◌<◌, ◌^◌}
use Rattle.search_trail.proofs.order.Order.sift_down.Given as goal

abbrev pub invariant-loop-left : goal.invariant-loop-left
invariant-loop-left l = l.len < 2 ^ 63

abbrev pub decreases-loop-left : goal.decreases-loop-left
decreases-loop-left l = l.len - l.left
