use Rattle.choice_values.specs.Parts.{AreNoLists}
use Rattle.choice_values.proofs.parts.no_lists.Given as goal

abbrev pub invariant-loop-part : goal.invariant-loop-part
invariant-loop-part l = AreNoLists l.parts.items
