use Rattle.std.proofs.Common.{vec_len}
use Rattle.lrat_check.specs.Marks.{IsValid}
use Rattle.lrat_check.proofs.marks.Marks.clear.Given as goal

abbrev pub invariant-loop-var : goal.invariant-loop-var
invariant-loop-var l = IsValid l.self-inside.truths.items l.self-inside.trail.items

abbrev pub decreases-loop-var : goal.decreases-loop-var
decreases-loop-var l = vec_len l.self-inside.trail
