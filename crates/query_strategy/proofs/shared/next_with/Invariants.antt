use Rattle.std.proofs.Common.{ℕ, ◌≤◌}
use Rattle.query_strategy.specs.Apart.{IsLater}
use Rattle.query_strategy.proofs.shared.next_with.Given as goal

-- none of the parts so far
abbrev pub invariant-loop-second : goal.invariant-loop-second
invariant-loop-second l = (j : ℕ) → IsLater l.parts l.first l.table j → l.second ≤ j
