use Rattle.std.proofs.Common.{take}
use Rattle.choice_values.specs.Parts.{number_at, IsOf}
use Rattle.choice_values.proofs.parts.is_of.Given as goal

abbrev pub invariant-loop-name : goal.invariant-loop-name
invariant-loop-name l = IsOf (number_at l.numbers) l.number (take l.name-index l.names)
