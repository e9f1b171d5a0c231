use Rattle.std.proofs.Common.{take}
use Rattle.lrat_check.specs.Marks.{IsOneLeft}
use Rattle.lrat_check.proofs.marks.Marks.look.Given as goal

abbrev pub invariant-loop-lit : goal.invariant-loop-lit
invariant-loop-lit l = IsOneLeft l.self (take l.lit-index l.clause) l.found
