use Rattle.std.proofs.Common.{◌≡◌, length}
use Rattle.flat_formula.proofs.guess.guess.Given as goal

-- there are as many values as before
abbrev pub invariant-loop-choice : goal.invariant-loop-choice
invariant-loop-choice l = length l.values.items ≡ length l.fn.values.items
