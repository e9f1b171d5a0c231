use Rattle.std.proofs.Common.{◌≡◌, map, take}
use Rattle.block_lists.specs.Numbers.{number_over}
use Rattle.block_lists.proofs.numbers.fill_numbers.Given as goal

-- the numbers of the rows so far
abbrev pub invariant-loop-name : goal.invariant-loop-name
invariant-loop-name l = l.numbers.items ≡ map (number_over l.bases) (take l.name-index l.names)
