use Rattle.std.proofs.Common.{◌≡◌, ℕ, take}
use Rattle.choice_values.specs.Choosing.{worths}
use Rattle.choice_values.proofs.under.whole.Given as goal

abbrev pub invariant-loop-at : goal.invariant-loop-at
invariant-loop-at l = (c : ℕ → ℕ) → worths c (take l.at l.lists) ≡ l.sum
