use Rattle.std.proofs.Common.{take}
use Rattle.choice_values.specs.Under.{IsLeft}
use Rattle.choice_values.proofs.under.cut.Given as goal

abbrev pub invariant-loop-name : goal.invariant-loop-name
invariant-loop-name l = IsLeft l.block l.row (take l.name-index l.names) l.left.items
