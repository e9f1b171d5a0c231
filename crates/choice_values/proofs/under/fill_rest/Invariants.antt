use Rattle.std.proofs.Common.{take}
use Rattle.choice_values.specs.Under.{IsUnder}
use Rattle.choice_values.proofs.under.fill_rest.Given as goal

abbrev pub invariant-loop-at : goal.invariant-loop-at
invariant-loop-at l = IsUnder l.block l.row (take l.at l.lists) l.rest.base l.rest.lists
