use Rattle.std.proofs.Common.{◌≡◌, ◌++◌, take}
use Rattle.choice_values.specs.Keeping.{rows_at}
use Rattle.choice_values.proofs.keeping.put_names_aside.Given as goal

abbrev pub invariant-loop-name : goal.invariant-loop-name
invariant-loop-name l = l.aside.items ≡ l.fn.aside.items ++ rows_at l.rows (take l.name-index l.names)
