use Rattle.std.proofs.Common.{◌≡◌, take}
use Rattle.std.specs.List.{sum}
use Rattle.block_lists.specs.Picks.{first_trues}
use Rattle.block_lists.proofs.picks.fill_choice.Given as goal

-- the values before the next block, and the rows of the blocks so far
abbrev pub invariant-loop-size : goal.invariant-loop-size
invariant-loop-size l = (l.from ≡ sum (take l.size-index l.sizes)) × (l.choice.items ≡ first_trues (take l.size-index l.sizes) l.values)
