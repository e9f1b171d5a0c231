use Rattle.std.proofs.Common.{◌≤◌}
use Rattle.query_strategy.specs.declared.shared.Shared.{Shared}
use Rattle.query_strategy.specs.Apart.{IsShared}
use Rattle.query_strategy.proofs.shared.shared_table.Given as goal

-- none of the parts so far
abbrev pub invariant-loop-first : goal.invariant-loop-first
invariant-loop-first l = (x : Shared) → IsShared l.parts x → l.first ≤ x.first
