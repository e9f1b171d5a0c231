use Rattle.std.proofs.Common.{◌≡◌}
use Rattle.flat_formula.proofs.guess.choose.Given as goal

-- nothing is chosen yet
abbrev pub invariant-loop-at : goal.invariant-loop-at
invariant-loop-at l = l.values.items ≡ l.fn.values.items
