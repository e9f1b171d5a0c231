use Rattle.std.proofs.Common.{◌≡◌, ◌+◌, drop}
use Rattle.block_lists.specs.Picks.{first_true}
use Rattle.block_lists.proofs.picks.first_true.Given as goal

-- no value so far is true
abbrev pub invariant-loop-at : goal.invariant-loop-at
invariant-loop-at l = first_true l.values ≡ l.at + first_true (drop l.at l.values)
