use Rattle.std.proofs.Common.{◌≡◌, take}
use Rattle.pair_refutation.specs.Refuting.{left_literals}
use Rattle.pair_refutation.proofs.refuting.left_of.Given as goal

abbrev pub invariant-loop-x : goal.invariant-loop-x
invariant-loop-x l = l.lits ≡ left_literals l.lost (take l.x-index l.vars)
