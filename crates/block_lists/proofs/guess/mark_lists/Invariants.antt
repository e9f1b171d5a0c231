use Rattle.std.proofs.Common.{◌≡◌, length}
use Rattle.block_lists.proofs.guess.mark_lists.Given as goal

abbrev pub invariant-loop-at : goal.invariant-loop-at
invariant-loop-at l = length l.free ≡ length l.fn.free
