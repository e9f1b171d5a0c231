use Rattle.std.proofs.Common.{◌≡◌, take}
use Rattle.std.specs.List.{sum}
use Rattle.block_lists.specs.Numbers.{bases_from}
use Rattle.block_lists.proofs.numbers.fill_bases.Given as goal

-- the rows before the blocks so far, and before the next
abbrev pub invariant-loop-size : goal.invariant-loop-size
invariant-loop-size l = (l.base ≡ sum (take l.size-index l.sizes)) × (l.bases.items ≡ bases_from 0 (take l.size-index l.sizes))
