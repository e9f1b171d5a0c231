use Rattle.search_trail.proofs.order.Order.sift_up.Given as goal

abbrev pub invariant-loop-place : goal.invariant-loop-place
invariant-loop-place l = Unit {0}

abbrev pub decreases-loop-place : goal.decreases-loop-place
decreases-loop-place l = l.place
