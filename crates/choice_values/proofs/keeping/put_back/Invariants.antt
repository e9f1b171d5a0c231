use Rattle.std.proofs.Common.{take}
use Rattle.choice_values.specs.Keeping.{ArePutBack}
use Rattle.choice_values.proofs.keeping.put_back.Given as goal

abbrev pub invariant-loop-name : goal.invariant-loop-name
invariant-loop-name l = ArePutBack (take l.name-index l.aside) l.fn.rows.items l.rows.items
