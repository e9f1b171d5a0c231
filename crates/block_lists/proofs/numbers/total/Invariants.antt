use Rattle.std.proofs.Common.{◌≡◌, take}
use Rattle.std.specs.List.{sum}
use Rattle.block_lists.proofs.numbers.total.Given as goal

-- the rows of the blocks so far
abbrev pub invariant-loop-size : goal.invariant-loop-size
invariant-loop-size l = l.total ≡ sum (take l.size-index l.sizes)
