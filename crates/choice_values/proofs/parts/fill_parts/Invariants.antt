use Rattle.std.proofs.Common.{take}
use Rattle.choice_values.specs.Parts.{number_at}
use Rattle.choice_values.proofs.Apart.{ArePartsBy}
use Rattle.choice_values.proofs.parts.fill_parts.Given as goal

abbrev pub invariant-loop-at : goal.invariant-loop-at
invariant-loop-at l = ArePartsBy (number_at l.numbers) (take l.at l.lists) l.parts.items
