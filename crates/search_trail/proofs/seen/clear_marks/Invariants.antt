use Rattle.std.proofs.Common.{drop}
use Rattle.search_trail.specs.Marks.{AllMet}
use Rattle.search_trail.proofs.seen.clear_marks.Given as goal

abbrev pub invariant-loop-var : goal.invariant-loop-var
invariant-loop-var l = AllMet l.seen.items (drop l.var-index l.met)
