use Rattle.std.proofs.Common.{take}
use Rattle.choice_values.specs.Keeping.{AreAside}
use Rattle.choice_values.proofs.keeping.put_aside.Given as goal

abbrev pub invariant-loop-at : goal.invariant-loop-at
invariant-loop-at l = AreAside (take l.at l.lists) l.rows l.aside.items
