use Rattle.std.proofs.Common.{take, map}
use Rattle.cnf_form.specs.Literals.{opposite}
use Rattle.lrat_check.specs.Marks.{Shows}
use Rattle.lrat_check.proofs.marks.Marks.assume.Given as goal

abbrev pub invariant-loop-lit : goal.invariant-loop-lit
invariant-loop-lit l = Shows l.self (map opposite (take l.lit-index l.clause))
