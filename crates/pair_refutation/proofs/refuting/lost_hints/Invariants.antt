use Rattle.std.proofs.Common.{◌≡◌, take}
use Rattle.pair_refutation.specs.Refuting.{lost_hints}
use Rattle.pair_refutation.proofs.refuting.lost_hints.Given as goal

abbrev pub invariant-loop-x : goal.invariant-loop-x
invariant-loop-x l = l.hints.items ≡ lost_hints l.lost (take l.x-index l.vars)
