use Rattle.std.proofs.Common.{◌≡◌, take}
use Rattle.std.specs.List.{sum}
use Rattle.block_choices.specs.Choices.{IsChoice}
use Rattle.block_lists.proofs.guess.fill_free.Given as goal

-- the values before the next block, and a row of each block so far
abbrev pub invariant-loop-size : goal.invariant-loop-size
invariant-loop-size l = (l.from ≡ sum (take l.size-index l.sizes)) × IsChoice (take l.size-index l.sizes) l.choice.items
