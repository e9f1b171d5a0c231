use Rattle.std.proofs.Common.{map, take}
use Rattle.block_choices.specs.Choices.{AreThere}
use Rattle.choice_values.proofs.asked.are_lists.Given as goal

abbrev pub invariant-loop-at : goal.invariant-loop-at
invariant-loop-at l = AreThere l.sizes (map (λ k. k.names) (take l.at l.lists))
