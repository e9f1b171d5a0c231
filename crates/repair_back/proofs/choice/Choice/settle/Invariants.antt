use Rattle.std.proofs.Common.{◌-◌, length}
use Rattle.repair_back.proofs.Settling.{SettledTo}
use Rattle.repair_back.proofs.choice.Choice.settle.Given as goal

-- the blocks so far are settled
abbrev pub invariant-loop-at : goal.invariant-loop-at
invariant-loop-at l = SettledTo l.key l.rows l.fn.self l.self l.at

abbrev pub decreases-loop-at : goal.decreases-loop-at
decreases-loop-at l = length l.rows - l.at
