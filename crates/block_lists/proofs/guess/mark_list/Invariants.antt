use Rattle.std.proofs.Common.{◌≡◌, length}
use Rattle.block_lists.proofs.guess.mark_list.Given as goal

abbrev pub invariant-loop-name : goal.invariant-loop-name
invariant-loop-name l = length l.free ≡ length l.fn.free
