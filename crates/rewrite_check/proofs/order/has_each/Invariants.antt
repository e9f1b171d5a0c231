use Rattle.std.proofs.Common.{ℕ, ◌<◌, Contains}
use Rattle.rewrite_check.proofs.order.has_each.Given as goal

-- the atoms so far are there
abbrev pub invariant-loop-atom : goal.invariant-loop-atom
invariant-loop-atom l = (k : ℕ) → k < l.atom-counter → Contains l.order k
