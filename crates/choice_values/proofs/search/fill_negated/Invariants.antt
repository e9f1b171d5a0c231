use Rattle.std.proofs.Common.{◌≡◌, take}
use Rattle.choice_values.specs.Negation.{negated}
use Rattle.choice_values.proofs.search.fill_negated.Given as goal

abbrev pub invariant-loop-at : goal.invariant-loop-at
invariant-loop-at l = l.turned ≡ negated (take l.at l.lists)
